use Rattle.mdf_blocks.proofs.SaysLemmas.{each_says}
use Rattle.mdf_blocks.proofs.laws.each_says.Goals as goal

pub returns : goal.returns
returns c = each_says
