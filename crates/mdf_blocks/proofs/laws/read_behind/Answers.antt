use Rattle.mdf_blocks.proofs.ReadLemmas.{read_behind}
use Rattle.mdf_blocks.proofs.laws.read_behind.Goals as goal

pub returns : goal.returns
returns c = read_behind
