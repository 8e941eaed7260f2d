use Rattle.std.proofs.Common.{◌≡◌, ◌-◌, map}
use Rattle.a2l_entries.specs.Said.{tokens_of}
use Rattle.a2l_entries.specs.Scans.{many}
use Rattle.a2l_entries.specs.TableSaid.{row_seen, range_row_said}
use Rattle.a2l_entries.proofs.ScanLemmas.{with_rows}
use Rattle.a2l_entries.proofs.table_block.range_rows_of.Given as goal

-- the rows so far and those that are still read are all rows
abbrev pub invariant-loop : goal.invariant-loop
invariant-loop l = with_rows range_row_said (map row_seen l.rows.items) (many range_row_said (l.count - l.counter) (tokens_of l.rest)) ≡ many range_row_said l.count (tokens_of l.left)
