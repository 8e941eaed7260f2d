use Rattle.mdf_blocks.proofs.ReadLemmas.{stays_read}
use Rattle.mdf_blocks.proofs.laws.stays_read.Goals as goal

pub returns : goal.returns
returns c = stays_read
