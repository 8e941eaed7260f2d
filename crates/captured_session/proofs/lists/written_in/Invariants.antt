use Rattle.std.specs.Prelude.{◌≡◌, ◌≤◌, length, map, Some}
use Rattle.std.specs.List.{range_with_len}
use Rattle.captured_session.specs.Lists.{entry_at, written}
use Rattle.captured_session.proofs.lists.written_in.Given as goal

-- those before are known
abbrev pub invariant-loop-entry : goal.invariant-loop-entry
invariant-loop-entry l =
    (written (map (entry_at l.facts l.list l.odt) (range_with_len 0 l.entry)) ≡ Some l.elements.items)
    × (length l.elements.items ≤ l.entry)
