use Rattle.std.specs.Prelude.{◌≡◌, ◌≤◌, All, length, map, Some}
use Rattle.std.specs.List.{range_with_len}
use Rattle.captured_session.specs.Lists.{all_of, odt_at}
use Rattle.captured_session.proofs.lists.all_odts.Given as goal

-- those before are known
abbrev pub invariant-loop-odt : goal.invariant-loop-odt
invariant-loop-odt l =
    (all_of (map (odt_at l.facts l.list) (range_with_len 0 l.odt)) ≡ Some (map (λ xs. xs.items) l.odts.items))
    × ((length l.odts.items ≤ l.odt) × All (λ xs. length xs.items ≤ 255) l.odts.items)
