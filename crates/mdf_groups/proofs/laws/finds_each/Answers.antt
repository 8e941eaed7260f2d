use Rattle.mdf_groups.proofs.LawLemmas.{finds_each}
use Rattle.mdf_groups.proofs.laws.finds_each.Goals as goal

-- among the sample's bytes or behind them
pub returns : goal.returns
returns c = finds_each
