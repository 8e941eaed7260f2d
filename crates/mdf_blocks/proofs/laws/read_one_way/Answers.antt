use Rattle.mdf_blocks.proofs.ReadLemmas.{read_one_way}
use Rattle.mdf_blocks.proofs.laws.read_one_way.Goals as goal

pub returns : goal.returns
returns c = read_one_way
