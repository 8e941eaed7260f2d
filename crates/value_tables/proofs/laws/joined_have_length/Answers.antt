use Rattle.value_tables.proofs.PlaceLemmas.{joined_have_length}
use Rattle.value_tables.proofs.laws.joined_have_length.Goals as goal

pub returns : goal.returns
returns c = joined_have_length
