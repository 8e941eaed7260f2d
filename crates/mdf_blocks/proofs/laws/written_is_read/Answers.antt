use Rattle.mdf_blocks.proofs.ReadLemmas.{written_is_read}
use Rattle.mdf_blocks.proofs.laws.written_is_read.Goals as goal

pub returns : goal.returns
returns c = written_is_read
