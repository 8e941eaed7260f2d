use Rattle.std.proofs.Common.{rules}
use Rattle.daq_sim.proofs.explaining.explain.Goals as goal

-- a run that can't be read stops for the same, in one thread or in threads
pub returns-in_err-run-clause-stops : goal.returns-in_err-run-clause-stops
returns-in_err-run-clause-stops g c = λ none.
    let stops = c.in_err-run.ensures.stops none c.args.options.threads in
    search rules
