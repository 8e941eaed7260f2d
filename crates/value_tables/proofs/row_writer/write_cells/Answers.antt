use Rattle.std.proofs.Common.{◌<◌, arith, length, None}
use Rattle.std.proofs.lemmas.Option.{slice_get-get_or}
use Rattle.sample_tables.proofs.PrintedLemmas.{there}
use Rattle.value_tables.proofs.CellLemmas.{cells_more}
use Rattle.value_tables.proofs.row_writer.write_cells.Goals as goal

-- the cell of one column more
pub loop-c-preserved : goal.loop-c-preserved
loop-c-preserved g c =
    let cell = c.in_ok-write_cell.ensures in
    let columns = c.args.columns.now in
    let sources = c.args.sources.now in
    let within : c.loop-c.c < length sources = omega (arith, c.loop-c-test.true, c.requires) in
    cells_more g.W.Write.contents c.args.rows.now c.loop-c.rows c.write_cell.new.rows c.args.sample.now.sample columns sources c.loop-c.c c.index-columns-c.result _ cell.0
    (there columns c.loop-c.c c.index-columns-c.result c.loop-c-test.true c.index-columns-c.is) (slice_get-get_or sources c.loop-c.c None within) c.loop-c.invariant cell.1 cell.2
