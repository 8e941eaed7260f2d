use Rattle.std.proofs.Common.{◌≡◌, ℕ, ◌<◌, true}
use Rattle.xcp_base.specs.Lists.{has_list}
use Rattle.slave.specs.Plans.{IsSame}
use Rattle.slave.proofs.plan.Plan.stands.Given as goal

-- the lists so far stand, if they are among these
abbrev pub invariant-loop-l : goal.invariant-loop-l
invariant-loop-l l = (k : ℕ) → k < l.l → has_list l.lists k ≡ true → IsSame l.self l.store k
