use Rattle.mdf_blocks.proofs.LaidLemmas.{links_are_read}
use Rattle.mdf_blocks.proofs.laws.links_are_read.Goals as goal

pub returns : goal.returns
returns c = links_are_read
