use Rattle.mdf_groups.proofs.SecondsLemmas.{seconds_are_numbers}
use Rattle.mdf_groups.proofs.laws.seconds_are_numbers.Goals as goal

-- no factor on the way is infinite, and no divisor zero
pub returns : goal.returns
returns c = seconds_are_numbers
