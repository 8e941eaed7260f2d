use Rattle.daq_run.proofs.AmpleLemmas.{ample}
use Rattle.daq_run.proofs.laws.ample_rings_drop_nothing.Goals as goal

pub returns : goal.returns
returns c = ample
