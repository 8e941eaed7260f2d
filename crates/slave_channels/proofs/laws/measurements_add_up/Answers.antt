use Rattle.slave_channels.proofs.EntryLemmas.{measurements-add_up}
use Rattle.slave_channels.proofs.laws.measurements_add_up.Goals as goal

-- each entry is of one measurement
pub returns : goal.returns
returns c = measurements-add_up
