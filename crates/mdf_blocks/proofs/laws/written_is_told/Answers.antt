use Rattle.mdf_blocks.proofs.ToldLemmas.{written_is_told}
use Rattle.mdf_blocks.proofs.laws.written_is_told.Goals as goal

pub returns : goal.returns
returns c = written_is_told
