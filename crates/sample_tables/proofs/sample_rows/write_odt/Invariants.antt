-- the rows of the entries so far were written
use Rattle.std.proofs.Common.{take}
use Rattle.std.specs.Prelude.{flat_map}
use Rattle.std.specs.Io.KnownBytes.{Appends}
use Rattle.std.specs.List.{enumerate_from}
use Rattle.csv.specs.Writing.{text_written}
use Rattle.copy_plan.specs.Config.{odt}
use Rattle.sample_tables.specs.Rows.{IsBetweenRows, entry_text}
use Rattle.sample_tables.proofs.sample_rows.write_odt.Given as goal

abbrev pub invariant-loop-e : goal.invariant-loop-e
invariant-loop-e g l = IsBetweenRows l.rows
    × Appends (text_written g.W.Write.contents l.fn.rows) (text_written g.W.Write.contents l.rows)
    (flat_map (entry_text l.shape l.at l.sample.sample l.k) (take l.e (enumerate_from 0 (odt l.shape l.k))))
