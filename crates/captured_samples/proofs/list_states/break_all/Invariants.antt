use Rattle.std.specs.Prelude.{◌≡◌, ◌++◌, drop, map, take}
use Rattle.captured_samples.specs.Inner.{broken_state}
use Rattle.captured_samples.proofs.list_states.break_all.Given as goal

-- those before are so
abbrev pub invariant-loop-i : goal.invariant-loop-i
invariant-loop-i l = l.lists ≡ map broken_state (take l.i l.fn.lists) ++ drop l.i l.fn.lists
