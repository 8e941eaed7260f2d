use Rattle.mdf_blocks.proofs.LaidLemmas.{laid_are_read}
use Rattle.mdf_blocks.proofs.laws.laid_are_read.Goals as goal

pub returns : goal.returns
returns c = laid_are_read
