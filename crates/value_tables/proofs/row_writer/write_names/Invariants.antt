-- the names of the columns so far were written
use Rattle.std.proofs.Common.{take}
use Rattle.value_tables.specs.ValueRows.{HasNames}
use Rattle.value_tables.proofs.row_writer.write_names.Given as goal

abbrev pub invariant-loop-c : goal.invariant-loop-c
invariant-loop-c g l = HasNames g.W.Write.contents l.fn.rows l.rows (take l.c l.columns)
