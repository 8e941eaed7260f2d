use Rattle.copy_plan.proofs.PidLemmas.{list_fields_apart}
use Rattle.copy_plan.proofs.laws.list_fields_are_apart.Goals as goal

pub returns : goal.returns
returns c = list_fields_apart
