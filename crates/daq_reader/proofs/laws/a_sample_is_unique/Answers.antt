use Rattle.daq_reader.proofs.UniqueLemmas.{sample_is_unique}
use Rattle.daq_reader.proofs.laws.a_sample_is_unique.Goals as goal

pub returns : goal.returns
returns c = sample_is_unique
