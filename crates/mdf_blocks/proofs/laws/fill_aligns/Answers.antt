use Rattle.mdf_blocks.proofs.ReadLemmas.{fill_aligns}
use Rattle.mdf_blocks.proofs.laws.fill_aligns.Goals as goal

pub returns : goal.returns
returns c = fill_aligns
