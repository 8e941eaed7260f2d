use Rattle.std.proofs.Common.{ℕ, ◌/◌, ◌<◌, ◌≤◌, get_or}
use Rattle.copy_plan.specs.Config.{ListPlan}
use Rattle.frame_ring.specs.Ends.{limit_of}
use Rattle.frame_ring.specs.declared.block.TheConstants.{BLOCK}
use Rattle.frame_ring.specs.declared.limits.TheConstants.{MAX_FRAME_RING, MIN_ROOM}
use Rattle.sampler.specs.Limits.{KeepsTo}
use Rattle.slave_channels.proofs.ring_ends.longest_of.Given as goal

-- there is room for the plans so far
abbrev pub invariant-loop-i : goal.invariant-loop-i
invariant-loop-i l =
    (MIN_ROOM ≤ l.room) × (l.room ≤ MAX_FRAME_RING / BLOCK)
    × ((k : ℕ) (d : ListPlan) → k < l.i → KeepsTo (limit_of l.room) (get_or l.plans k d))
