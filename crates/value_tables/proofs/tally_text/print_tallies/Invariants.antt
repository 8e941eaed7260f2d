-- the head and the lines of the columns so far were printed
use Rattle.std.proofs.Common.{take}
use Rattle.std.specs.Prelude.{reverse}
use Rattle.value_tables.specs.TallyText.{IsLineOf, head_line}
use Rattle.value_tables.proofs.LineLemmas.{HasLines}
use Rattle.value_tables.proofs.tally_text.print_tallies.Given as goal

abbrev pub invariant-loop-c : goal.invariant-loop-c
invariant-loop-c g l =
    HasLines (IsLineOf l.tallies.plans (reverse l.tallies.samples)) head_line (g.W.Write.contents l.fn.out) (g.W.Write.contents l.out) (take l.c l.columns)
