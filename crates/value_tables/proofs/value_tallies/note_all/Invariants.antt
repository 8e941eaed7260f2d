-- the values of the columns so far are noted
use Rattle.value_tables.specs.ValueTallies.{NotesFirst}
use Rattle.value_tables.proofs.value_tallies.note_all.Given as goal

abbrev pub invariant-loop-c : goal.invariant-loop-c
invariant-loop-c l = NotesFirst l.sample.sample l.columns l.sources l.c l.fn.tallies l.tallies
