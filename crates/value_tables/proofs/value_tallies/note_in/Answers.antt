use Rattle.std.proofs.Common.{◌≡◌, ◌∙◌, Option, Some, List, length, ap, subst, sym}
use Rattle.std.specs.Prelude.{option_map}
use Rattle.std.specs.Option.{option_copied}
use Rattle.copy_plan.specs.Config.{ListPlan}
use Rattle.measured_values.specs.declared.tally.Tally.{Tally}
use Rattle.value_tables.specs.Lists.{HasSources}
use Rattle.value_tables.specs.ValueTallies.{NotesFirst, NotesIn}
use Rattle.value_tables.specs.declared.list_columns.ListColumns.{ListColumns}
use Rattle.value_tables.specs.declared.source.Source.{Source}
use Rattle.value_tables.proofs.TallyLemmas.{notes_in, written_back}
use Rattle.value_tables.proofs.value_tallies.note_in.Goals as goal

-- the list has all sources
pub returns-in-Some-clause-each : goal.returns-in-Some-clause-each
returns-in-Some-clause-each c plan is =
    let r = c.args.sample.now.sample in
    let columns = c.args.columns.now in
    let old = c.args.tallies.now.items in
    let new = c.note_all.new.tallies in
    let list = c.in-Some.list.now in
    let known : HasSources columns list = rw c.in-Some.is at c.requires.sources in
    let its : plan ≡ Some list.shape = is ∙ ap (λ o. option_map (λ (l : ListColumns). l.shape) (option_copied o)) c.in-Some.is in
    let first = subst (λ (ts : List Tally). NotesFirst r columns c.deref.result.now (length ts) ts new) c.deref_mut.ensures.value c.note_all.ensures in
    let has = subst (λ (ss : List (Option Source)). NotesFirst r columns ss (length old) old new) (c.deref.ensures.value ∙ known) first in
    let notes = subst (λ (p : Option ListPlan). NotesIn r columns p old new) (sym its) (notes_in r columns list.shape old new has) in
    let back = written_back c.args.tallies.now.len new old (c.note_all.ensures.all ∙ c.deref_mut.ensures.len) in
    subst (λ (ts : List Tally). NotesIn r columns plan old ts) (sym back) notes
