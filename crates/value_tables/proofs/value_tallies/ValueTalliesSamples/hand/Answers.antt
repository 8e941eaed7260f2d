use Rattle.std.proofs.Common.{◌≡◌, ◌∙◌, ap, slice_get, subst, sym, List}
use Rattle.std.specs.Prelude.{option_map}
use Rattle.std.proofs.lemmas.Option.{slice_get-map}
use Rattle.copy_plan.specs.Config.{ListPlan}
use Rattle.value_tables.specs.Lists.{plans_of}
use Rattle.value_tables.specs.ValueTallies.{NotesIn}
use Rattle.value_tables.specs.declared.column.Column.{Column}
use Rattle.value_tables.specs.declared.list_columns.ListColumns.{ListColumns}
use Rattle.value_tables.proofs.TallyLemmas.{tallies_more}
use Rattle.value_tables.proofs.value_tallies.ValueTalliesSamples.hand.Goals as goal

-- the values of the sample are counted too
pub invariant_of-self : goal.invariant_of-self
invariant_of-self c =
    let at = c.self.inside in
    let r = c.args.sample.now.sample in
    let plans = plans_of at.lists.items in
    let shape : ListColumns → ListPlan = λ l. l.shape in
    let of : slice_get plans c.args.place ≡ option_map shape (slice_get c.deref.result.now c.args.place) =
    slice_get-map shape at.lists.items c.args.place ∙ ap (λ ls. option_map shape (slice_get ls c.args.place)) (sym c.deref.ensures.value) in
    let notes = c.note_in.ensures.each (slice_get plans c.args.place) (of ∙ ap (option_map shape) (sym c.list_at-list.ensures)) in
    let more = tallies_more plans at.columns.items at.log.samples c.args.place r at.tallies.items c.note_in.new.tallies.items c.note_in.ensures.all c.self.invariant.2
    (subst (λ (cs : List Column). NotesIn r cs (slice_get plans c.args.place) at.tallies.items c.note_in.new.tallies.items) c.deref-2.ensures.value notes) in
    rw c.note.ensures (c.note_in.ensures.all ∙ c.self.invariant.0, c.self.invariant.1, more)
