use Rattle.daq_run.proofs.AlikeLemmas.{refusals_decide_runs}
use Rattle.daq_run.proofs.laws.refusals_decide_runs.Goals as goal

pub returns : goal.returns
returns c = refusals_decide_runs c.args.run.now c.ring.ensures.limits
