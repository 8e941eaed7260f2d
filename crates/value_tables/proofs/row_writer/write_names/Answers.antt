use Rattle.sample_tables.proofs.PrintedLemmas.{there}
use Rattle.value_tables.proofs.CellLemmas.{names_more}
use Rattle.value_tables.proofs.row_writer.write_names.Goals as goal

-- the name of one column more
pub loop-c-preserved : goal.loop-c-preserved
loop-c-preserved g c =
    let columns = c.args.columns.now in
    let column = c.index-columns-c.result in
    names_more g.W.Write.contents c.args.rows.now c.loop-c.rows c.put_head.new.rows columns c.loop-c.c column
    (there columns c.loop-c.c column c.loop-c-test.true c.index-columns-c.is) c.loop-c.invariant c.in_ok-put_head.ensures
