use Rattle.std.proofs.Common.{ℕ, ◌+◌, ◌-◌, ◌*◌, ◌<◌, ◌≤◌, length}
use Rattle.measured_values.specs.declared.byte_order.ByteOrder.TheVariants.{MsbFirst}
use Rattle.capture.specs.Numbers.{field}
use Rattle.datagrams.specs.Links.{IsTagType}
use Rattle.datagrams.proofs.link_frame.in_ethernet.Given as goal

-- so many tags stand in front
abbrev pub invariant-loop-tags : goal.invariant-loop-tags
invariant-loop-tags l =
    ((i : ℕ) → i < l.tags → IsTagType (field MsbFirst 2 (12 + 4 * i) l.frame)) × (4 * l.tags ≤ length l.frame + 4)

abbrev pub decreases-loop-tags : goal.decreases-loop-tags
decreases-loop-tags l = length l.frame + 4 - l.tags
