use Rattle.mdf_blocks.proofs.StayLemmas.{written_text_is_told}
use Rattle.mdf_blocks.proofs.laws.written_text_is_told.Goals as goal

pub returns : goal.returns
returns c = written_text_is_told
