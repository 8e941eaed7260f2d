use Rattle.mdf_blocks.proofs.StayLemmas.{stays_told}
use Rattle.mdf_blocks.proofs.laws.stays_told.Goals as goal

pub returns : goal.returns
returns c = stays_told
