use Rattle.std.specs.Prelude.{◌≡◌, ◌++◌, ◌≤◌, None}
use Rattle.captured_session.specs.SetUps.{writes_from}
use Rattle.captured_session.proofs.facts.push_lost.Given as goal

abbrev pub invariant-loop-i : goal.invariant-loop-i
invariant-loop-i l =
    (l.facts.items ≡ l.fn.facts.items ++ writes_from l.pointer l.i (λ i. None)) × (l.i ≤ l.count)
