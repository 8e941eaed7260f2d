use Rattle.daq_run.proofs.WholeLemmas.{ample_runs}
use Rattle.daq_run.proofs.laws.ample_runs_are_whole.Goals as goal

pub returns : goal.returns
returns c = ample_runs
