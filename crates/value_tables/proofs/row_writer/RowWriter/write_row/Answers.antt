use Rattle.std.proofs.Common.{List, Option, subst, ◌∙◌}
use Rattle.sample_tables.proofs.PrintedLemmas.{with_ok}
use Rattle.value_tables.specs.ValueRows.{HasCells}
use Rattle.value_tables.specs.declared.source.Source.{Source}
use Rattle.value_tables.proofs.CellLemmas.{row_is}
use Rattle.value_tables.proofs.row_writer.RowWriter.write_row.Goals as goal

-- its front and its cells stand there, and its end behind them
pub returns-clause-text : goal.returns-clause-text
returns-clause-text g c =
    let contents = g.W.Write.contents in
    let r = c.args.sample.now.sample in
    let cells = subst (λ (ss : List (Option Source)). HasCells contents c.write_front.new.rows c.write_cells.new.rows r c.args.columns.now ss) (c.deref.ensures.value ∙ c.requires.sources) c.in_ok-write_cells.ensures in
    let row = row_is contents c.args.self.now.rows c.write_front.new.rows c.write_cells.new.rows c.args.self.now.tick c.args.columns.now c.args.list.now.shape c.args.at r _ _ c.list.ensures c.overload.ensures c.in_ok-write_front.ensures cells c.requires.few in
    with_ok c.end.result _ _ (row.3 c.end.new.rows) (c.end.ensures.text _ row.0 row.1 row.2)

pub returns-clause-between : goal.returns-clause-between
returns-clause-between g c =
    let contents = g.W.Write.contents in
    let r = c.args.sample.now.sample in
    let cells = subst (λ (ss : List (Option Source)). HasCells contents c.write_front.new.rows c.write_cells.new.rows r c.args.columns.now ss) (c.deref.ensures.value ∙ c.requires.sources) c.in_ok-write_cells.ensures in
    let row = row_is contents c.args.self.now.rows c.write_front.new.rows c.write_cells.new.rows c.args.self.now.tick c.args.columns.now c.args.list.now.shape c.args.at r _ _ c.list.ensures c.overload.ensures c.in_ok-write_front.ensures cells c.requires.few in
    c.end.ensures.between _ row.0 row.1
