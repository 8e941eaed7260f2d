use Rattle.copy_plan.proofs.PidLemmas.{pid_ranges}
use Rattle.copy_plan.proofs.laws.pid_ranges_share_nothing.Goals as goal

pub returns : goal.returns
returns c = pid_ranges
