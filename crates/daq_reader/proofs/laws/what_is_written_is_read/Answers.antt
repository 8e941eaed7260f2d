use Rattle.daq_reader.proofs.WrittenLemmas.{written_is_read}
use Rattle.daq_reader.proofs.laws.what_is_written_is_read.Goals as goal

pub returns : goal.returns
returns c = written_is_read
