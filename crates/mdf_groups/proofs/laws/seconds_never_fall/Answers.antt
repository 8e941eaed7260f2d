use Rattle.mdf_groups.proofs.TimeLemmas.{seconds_never_fall}
use Rattle.mdf_groups.proofs.laws.seconds_never_fall.Goals as goal

-- each step keeps the order, as rounding does
pub returns : goal.returns
returns c = seconds_never_fall
