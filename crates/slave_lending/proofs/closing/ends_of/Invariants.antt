use Rattle.std.proofs.Common.{◌≡◌, ◌≤◌, ◌++◌, length, vec_capacity}
use Rattle.std.specs.Vec.Iter.{into_iter_items, into_iter_len}
use Rattle.slave_lending.specs.Slots.{AreEndsOf}
use Rattle.slave_lending.proofs.closing.ends_of.Given as goal

-- these are left of the tasks so far, and there is room for the others
abbrev pub invariant-loop-slot : goal.invariant-loop-slot
invariant-loop-slot l =
    (l.yielded ++ into_iter_items l.slot-iterator ≡ into_iter_items l.initial.slot-iterator)
    × AreEndsOf l.yielded l.ends.items
    × (into_iter_len l.slot-iterator ≡ length (into_iter_items l.slot-iterator))
    × (length l.ends.items ≡ length l.yielded)
    × (length l.fn.slots.items ≤ vec_capacity l.ends)
