use Rattle.std.proofs.Common.{◌≡◌, ◌++◌, length, map}
use Rattle.std.specs.Vec.Iter.{into_iter_items, into_iter_len}
use Rattle.tasks.specs.Tasks.{TaskEndState}
use Rattle.session_file.specs.Playing.{lines_of}
use Rattle.session_file.proofs.player.finish_all.Given as goal

-- what is left of the tasks so far is on their lines
abbrev pub invariant-loop-task : goal.invariant-loop-task
invariant-loop-task l =
    (l.yielded ++ into_iter_items l.task-iterator ≡ into_iter_items l.initial.task-iterator)
    × (map (λ (end : TaskEndState _). end.ring) l.ends.items ≡ lines_of l.yielded)
    × (into_iter_len l.task-iterator ≡ length (into_iter_items l.task-iterator))
