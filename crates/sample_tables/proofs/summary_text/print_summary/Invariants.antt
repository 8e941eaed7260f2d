-- the head and the lines of the lists so far were printed
use Rattle.std.proofs.Common.{◌++◌, take}
use Rattle.std.specs.Prelude.{flat_map}
use Rattle.std.specs.Io.KnownBytes.{Appends}
use Rattle.std.specs.List.{enumerate_from}
use Rattle.sample_tables.specs.Tables.{head_line, list_line}
use Rattle.sample_tables.proofs.summary_text.print_summary.Given as goal

abbrev pub invariant-loop-place : goal.invariant-loop-place
invariant-loop-place g l = Appends (g.W.Write.contents l.fn.out) (g.W.Write.contents l.out)
    (head_line ++ flat_map (list_line l.summary.samples) (take l.place (enumerate_from 0 l.shapes)))
