-- the cells of the columns so far were written
use Rattle.std.proofs.Common.{take}
use Rattle.value_tables.specs.ValueRows.{HasCells}
use Rattle.value_tables.proofs.row_writer.write_cells.Given as goal

abbrev pub invariant-loop-c : goal.invariant-loop-c
invariant-loop-c g l = HasCells g.W.Write.contents l.fn.rows l.rows l.sample.sample (take l.c l.columns) (take l.c l.sources)
