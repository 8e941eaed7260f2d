use Rattle.mdf_blocks.proofs.PatchLemmas.{patch_is_read}
use Rattle.mdf_blocks.proofs.laws.patch_is_read.Goals as goal

pub returns : goal.returns
returns c = patch_is_read
