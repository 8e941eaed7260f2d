use Rattle.std.specs.Prelude.{◌≡◌, ◌++◌, ◌≤◌}
use Rattle.captured_session.specs.SetUps.{element_at, writes_from}
use Rattle.captured_session.proofs.facts.push_writes.Given as goal

abbrev pub invariant-loop-i : goal.invariant-loop-i
invariant-loop-i l =
    (l.facts.items ≡ l.fn.facts.items ++ writes_from l.pointer l.i (element_at l.order l.packet)) × (l.i ≤ l.count)
