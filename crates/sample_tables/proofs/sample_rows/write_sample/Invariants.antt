-- the rows of the ODTs so far were written
use Rattle.std.proofs.Common.{take}
use Rattle.std.specs.Prelude.{flat_map}
use Rattle.std.specs.Io.KnownBytes.{Appends}
use Rattle.std.specs.List.{enumerate_from}
use Rattle.csv.specs.Writing.{text_written}
use Rattle.sample_tables.specs.Rows.{IsBetweenRows, odt_text}
use Rattle.sample_tables.proofs.sample_rows.write_sample.Given as goal

abbrev pub invariant-loop-k : goal.invariant-loop-k
invariant-loop-k g l = IsBetweenRows l.rows
    × Appends (text_written g.W.Write.contents l.fn.rows) (text_written g.W.Write.contents l.rows)
    (flat_map (odt_text l.shape l.at l.sample.sample) (take l.k (enumerate_from 0 l.shape.odts)))
