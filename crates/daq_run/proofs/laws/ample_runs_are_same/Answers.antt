use Rattle.daq_run.proofs.AlikeLemmas.{ample_runs_are_same}
use Rattle.daq_run.proofs.laws.ample_runs_are_same.Goals as goal

pub returns : goal.returns
returns c = ample_runs_are_same c.args.run.now c.ring.ensures.limits
