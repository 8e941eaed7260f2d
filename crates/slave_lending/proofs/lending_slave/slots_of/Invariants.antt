use Rattle.std.proofs.Common.{◌≡◌, ◌++◌, length, map}
use Rattle.std.specs.Vec.Iter.{into_iter_items, into_iter_len}
use Rattle.slave_lending.specs.Slots.{with_task}
use Rattle.slave_lending.proofs.lending_slave.slots_of.Given as goal

-- the tasks so far are in their slots
abbrev pub invariant-loop-task : goal.invariant-loop-task
invariant-loop-task l =
    (l.yielded ++ into_iter_items l.task-iterator ≡ into_iter_items l.initial.task-iterator)
    × (l.slots.items ≡ map with_task l.yielded)
    × (into_iter_len l.task-iterator ≡ length (into_iter_items l.task-iterator))
