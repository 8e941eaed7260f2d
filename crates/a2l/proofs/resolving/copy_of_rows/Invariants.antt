use Rattle.std.proofs.Common.{◌≡◌, map, take}
use Rattle.a2l_entries.specs.TableSaid.{row_seen}
use Rattle.a2l.proofs.resolving.copy_of_rows.Given as goal

abbrev pub invariant-loop-row : goal.invariant-loop-row
invariant-loop-row l = map row_seen l.copies.items ≡ map row_seen (take l.row-index l.rows)
