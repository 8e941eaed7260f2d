use Rattle.mdf_blocks.proofs.TellLemmas.{tells_one_thing}
use Rattle.mdf_blocks.proofs.laws.tells_one_thing.Goals as goal

pub returns : goal.returns
returns c = tells_one_thing
