use Rattle.daq_reader.proofs.UniqueLemmas.{reading_is_unique}
use Rattle.daq_reader.proofs.laws.a_reading_is_unique.Goals as goal

pub returns : goal.returns
returns c = reading_is_unique
