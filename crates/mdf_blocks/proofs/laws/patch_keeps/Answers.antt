use Rattle.mdf_blocks.proofs.PatchLemmas.{patch_keeps}
use Rattle.mdf_blocks.proofs.laws.patch_keeps.Goals as goal

pub returns : goal.returns
returns c = patch_keeps
