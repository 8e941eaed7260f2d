use Rattle.std.proofs.Common.{ℕ, List, [], ◌∷◌, ◌++◌, Option, ap, subst, sym, ◌≡◌, ◌∙◌}
use Rattle.std.specs.Prelude.{reverse, option_map, slice_get}
use Rattle.std.specs.Option.{option_copied}
use Rattle.std.specs.Io.KnownBytes.{Appends}
use Rattle.csv.specs.Writing.{text_written}
use Rattle.copy_plan.specs.Config.{ListPlan}
use Rattle.daq_reader.specs.Recorded.{Recorded}
use Rattle.sample_tables.specs.Spots.{KnowsSpots}
use Rattle.sample_tables.proofs.RowLemmas.{reverse-push}
use Rattle.value_tables.proofs.CsvLemmas.{row_more, sources_at}
use Rattle.value_tables.specs.Lists.{plans_of}
use Rattle.value_tables.specs.declared.column.Column.{Column}
use Rattle.value_tables.specs.declared.list_columns.ListColumns.{ListColumns}
use Rattle.std.proofs.lemmas.Option.{slice_get-map}
use Rattle.value_tables.specs.ValueRows.{HasCsv, IsRowIn}
use Rattle.value_tables.proofs.value_rows.ValueRowsSamples.hand.Goals as goal

-- the row of the sample stands behind those before, if nothing failed
pub invariant_of-self : goal.invariant_of-self
invariant_of-self g c =
    let at = c.self.inside in
    let r = c.args.sample.now.sample in
    let contents = g.W.Write.contents in
    let plans = plans_of at.lists.items in
    let earlier = reverse at.log.samples in
    let of : option_copied c.shape_of.result ≡ slice_get plans c.args.place =
    c.shape_of.ensures ∙ ap (option_map (λ (l : ListColumns). l.shape)) (c.list_at-list.ensures ∙ ap (λ ls. slice_get ls c.args.place) c.deref.ensures.value) ∙ sym (slice_get-map (λ (l : ListColumns). l.shape) at.lists.items c.args.place) in
    let knows = c.next-at.ensures.knows plans earlier r c.self.invariant.0 of c.stamp.ensures in
    let known = subst (λ (ss : List (ℕ × Recorded)). KnowsSpots c.next-at.new.self plans ss) (sym (reverse-push at.log.samples (c.args.place, r))) knows in
    rw c.note.ensures (
      known,
      c.self.invariant.1,
      λ none.
          let has = c.self.invariant.2 (c.go_on-self-inside.ensures.before none) in
          let text = subst (λ (cs : List Column). (t : List ℕ) × IsRowIn at.rows.tick cs (option_map (λ (l : ListColumns). l.shape) (option_copied c.list_at-list.result)) c.next-at.result r t
          × Appends (text_written contents at.rows.rows) (text_written contents c.go_on-self-inside.new.rows.rows) t) c.deref-2.ensures.value (c.go_on-self-inside.ensures.text none) in
          let row = subst (λ (o : Option ListPlan). (t : List ℕ) × IsRowIn at.rows.tick at.columns.items o c.next-at.result r t
          × Appends (text_written contents at.rows.rows) (text_written contents c.go_on-self-inside.new.rows.rows) t) (sym c.shape_of.ensures ∙ of) text in
          let more = row_more contents at.rows.tick at.columns.items plans (contents at.start.value) at.log.samples c.args.place r c.next-at.result at.rows.rows c.go_on-self-inside.new.rows.rows has
          (λ plan there. c.next-at.ensures.spot plans plan earlier r c.self.invariant.0 of there c.stamp.ensures) row (c.go_on-self-inside.ensures.between none) in
          subst (λ t. HasCsv contents t at.columns.items plans (contents at.start.value) (at.log.samples ++ (c.args.place, r) ∷ []) c.go_on-self-inside.new.rows.rows) (sym c.go_on-self-inside.ensures.tick) more,
    )

-- nothing failed yet, so the writer is between two rows
pub go_on-self-inside-requires-clause-between : goal.go_on-self-inside-requires-clause-between
go_on-self-inside-requires-clause-between g c = λ none. (c.self.invariant.2 none).between

-- the list at the place knows its sources
pub go_on-self-inside-requires-clause-sources : goal.go_on-self-inside-requires-clause-sources
go_on-self-inside-requires-clause-sources g c =
    let at = c.list_at-list.ensures ∙ ap (λ ls. slice_get ls c.args.place) c.deref.ensures.value in
    rw c.deref-2.ensures.value (sources_at c.self.inside.columns.items c.self.inside.lists.items c.args.place c.list_at-list.result at c.self.invariant.1)
