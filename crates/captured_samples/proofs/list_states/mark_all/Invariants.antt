use Rattle.std.specs.Prelude.{◌≡◌, ◌++◌, drop, map, take}
use Rattle.captured_samples.specs.Inner.{marked_state}
use Rattle.captured_samples.proofs.list_states.mark_all.Given as goal

-- those before are so
abbrev pub invariant-loop-at : goal.invariant-loop-at
invariant-loop-at l = l.lists ≡ map marked_state (take l.at l.fn.lists) ++ drop l.at l.fn.lists
