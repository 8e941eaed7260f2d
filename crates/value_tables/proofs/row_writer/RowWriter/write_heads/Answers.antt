use Rattle.std.proofs.Common.{◌≤◌, arith, length}
use Rattle.csv.specs.Writing.{text_written}
use Rattle.value_tables.specs.ValueRows.{front_heads, heads}
use Rattle.value_tables.proofs.row_writer.RowWriter.write_heads.Goals as goal

-- the names of the front and of the columns, and the end of a row
pub returns-clause-text : goal.returns-clause-text
returns-clause-text g c =
    let front = front_heads c.args.self.now.tick in
    let before = text_written g.W.Write.contents c.args.self.now.rows in
    let has = c.in_ok-write_names.ensures before front c.in_ok-write_head_front.ensures (omega (arith, c.requires.few)) in
    let two : 2 ≤ length (heads c.args.self.now.tick c.args.columns.now) = omega arith in
    c.end.ensures.text before _ has two

pub returns-clause-between : goal.returns-clause-between
returns-clause-between g c =
    let front = front_heads c.args.self.now.tick in
    let before = text_written g.W.Write.contents c.args.self.now.rows in
    c.end.ensures.between before _ (c.in_ok-write_names.ensures before front c.in_ok-write_head_front.ensures (omega (arith, c.requires.few)))
