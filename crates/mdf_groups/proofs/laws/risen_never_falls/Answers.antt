use Rattle.mdf_groups.proofs.TimeLemmas.{risen_never_falls}
use Rattle.mdf_groups.proofs.laws.risen_never_falls.Goals as goal

-- it is that one, or not below it
pub returns : goal.returns
returns c = risen_never_falls
