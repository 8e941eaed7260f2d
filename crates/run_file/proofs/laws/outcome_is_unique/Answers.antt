use Rattle.run_file.proofs.OutcomeLemmas.{outcome_is_unique}
use Rattle.run_file.proofs.laws.outcome_is_unique.Goals as goal

pub returns : goal.returns
returns c = outcome_is_unique
