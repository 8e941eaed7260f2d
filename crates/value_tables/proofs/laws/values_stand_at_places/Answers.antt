use Rattle.value_tables.proofs.PlaceLemmas.{values_stand_at_places}
use Rattle.value_tables.proofs.laws.values_stand_at_places.Goals as goal

pub returns : goal.returns
returns c = values_stand_at_places
