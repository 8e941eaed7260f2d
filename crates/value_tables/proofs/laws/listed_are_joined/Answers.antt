use Rattle.value_tables.proofs.PlaceLemmas.{listed_are_joined}
use Rattle.value_tables.proofs.laws.listed_are_joined.Goals as goal

pub returns : goal.returns
returns c = listed_are_joined
