use Rattle.copy_plan.proofs.PidLemmas.{pids_apart}
use Rattle.copy_plan.proofs.laws.pids_of_lists_are_apart.Goals as goal

pub returns : goal.returns
returns c = pids_apart
