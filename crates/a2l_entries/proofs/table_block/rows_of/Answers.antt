use Rattle.std.proofs.Common.{◌≡◌, ◌++◌, ◌∷◌, [], map}
use Rattle.std.proofs.lemmas.Result.{err_from_is_err_and}
use Rattle.std.proofs.lemmas.List.{map_push}
use Rattle.a2l_entries.specs.Said.{tokens_of}
use Rattle.a2l_entries.specs.TableSaid.{row_seen, row_said}
use Rattle.a2l_entries.proofs.ScanLemmas.{row_goes_on, row_stops, rows_done}
use Rattle.a2l_entries.proofs.table_block.rows_of.Goals as goal

pub returns-in_err-row : goal.returns-in_err-row
returns-in_err-row c =
    let p = err_from_is_err_and c.from_residual.result c.from_residual.ensures.1 in
    rw (p.1, p.2) (row_stops row_said c.in_err-row.field-0.0 (map row_seen c.loop.rows.items) c.args.count c.loop.counter (tokens_of c.loop.rest) _ c.loop-test.true c.in_err-row.ensures c.loop.invariant)

pub loop-preserved : goal.loop-preserved
loop-preserved c =
    let r = row_seen c.in_ok-row.row in
    let e : map row_seen c.push.new.self.items ≡ map row_seen c.loop.rows.items ++ r ∷ [] = rw c.in_ok-push.ensures.items (map_push _ c.loop.rows.items c.in_ok-row.row) in
    rw e (row_goes_on row_said (map row_seen c.loop.rows.items) c.args.count c.loop.counter (tokens_of c.loop.rest) r _ _ c.loop-test.true c.in_ok-row.ensures c.loop.invariant)

pub returns : goal.returns
returns c = rows_done row_said (map row_seen c.loop.rows.items) c.args.count c.loop.counter (tokens_of c.loop.rest) _ c.loop-test.false c.loop.invariant
