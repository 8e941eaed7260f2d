use Rattle.std.proofs.Common.{ℕ, List, ◌∙◌, ap, arith, subst, sym}
use Rattle.std.specs.Prelude.{reverse}
use Rattle.daq_reader.specs.Recorded.{Recorded}
use Rattle.sample_tables.specs.Spots.{KnowsSpots}
use Rattle.sample_tables.specs.declared.spot.Spot.{Spot}
use Rattle.sample_tables.proofs.RowLemmas.{reverse-push}
use Rattle.sample_tables.proofs.SpotLemmas.{within}
use Rattle.recording.specs.Measured.{HaveGroups, time_of}
use Rattle.recording.proofs.MeasuredLemmas.{sample_more}
use Rattle.recording.proofs.file_sheet.FileSheetSamples.hand.Goals as goal

-- a list that is there is counted
pub next-at-requires : goal.next-at-requires
next-at-requires g c =
    let of = rw c.deref.ensures.value at c.shape_at-shape.ensures in
    record {
      numbers = λ some. omega (arith, within c.self.inside.shapes.items c.args.place _ of some, c.self.invariant.0.all);
      times = λ some. omega (arith, within c.self.inside.shapes.items c.args.place _ of some, c.self.invariant.0.all_times);
    }

-- the sample is one more of its list, and its record stands behind those before, if nothing failed
pub invariant_of-self : goal.invariant_of-self
invariant_of-self g c =
    let at = c.self.inside in
    let r = c.args.sample.now.sample in
    let plans = at.shapes.items in
    let tick = at.values.tick in
    let columns = at.values.columns.now in
    let earlier = reverse at.log.samples in
    let pushed = sym (reverse-push at.log.samples (c.args.place, r)) in
    let of = rw c.deref.ensures.value at c.shape_at-shape.ensures in
    let gone = c.go_on-self-inside in
    let knows = c.next-at.ensures.knows plans earlier r c.self.invariant.0 of c.stamp.ensures in
    rw c.note.ensures (
      subst (λ (ss : List (ℕ × Recorded)). KnowsSpots c.next-at.new.self plans ss) pushed knows,
      λ none.
          let was = c.self.invariant.1 (gone.ensures.before none) in
          let more = sample_more tick columns plans earlier c.args.place r c.time_of-time.result at.file gone.new.file was.0
          (λ plan there. c.time_of-time.ensures ∙ ap (λ (s : Spot). time_of tick s.time) (c.next-at.ensures.spot plans plan earlier r c.self.invariant.0 of there c.stamp.ensures))
          (gone.ensures.sample none) in (
            subst (λ (ss : List (ℕ × Recorded)). HaveGroups tick columns plans ss gone.new.file.forms gone.new.file.file.groups) pushed more,
            gone.ensures.unfinished none (g.O.MdfOut.known at.start.value) was.1,
          ),
    )
