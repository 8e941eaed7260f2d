use Rattle.copy_plan.proofs.PidLemmas.{relative_pid}
use Rattle.copy_plan.proofs.laws.relative_pid.Goals as goal

pub returns : goal.returns
returns c = relative_pid
