use Rattle.std.proofs.Common.{ℕ, List, Option, arith, subst, sym}
use Rattle.std.specs.Prelude.{reverse}
use Rattle.std.specs.Io.KnownBytes.{Appends}
use Rattle.csv.specs.Writing.{text_written}
use Rattle.copy_plan.specs.Config.{ListPlan}
use Rattle.daq_reader.specs.Recorded.{Recorded}
use Rattle.sample_tables.specs.Rows.{text_at}
use Rattle.sample_tables.specs.Spots.{KnowsSpots}
use Rattle.sample_tables.proofs.RowLemmas.{reverse-push, rows_more, went_on}
use Rattle.sample_tables.proofs.SpotLemmas.{within}
use Rattle.sample_tables.proofs.sample_rows.SampleRowsSamples.hand.Goals as goal

-- a list that is there is counted
pub next-at-requires : goal.next-at-requires
next-at-requires g c =
    let of = rw c.deref.ensures.value at c.shape_at-shape.ensures in
    record {
      numbers = λ some. omega (arith, within c.self.inside.shapes.items c.args.place _ of some, c.self.invariant.0.all);
      times = λ some. omega (arith, within c.self.inside.shapes.items c.args.place _ of some, c.self.invariant.0.all_times);
    }

-- the rows of the sample stand behind those before, if none failed
pub invariant_of-self : goal.invariant_of-self
invariant_of-self g c =
    let at = c.self.inside in
    let r = c.args.sample.now.sample in
    let of = rw c.deref.ensures.value at c.shape_at-shape.ensures in
    let earlier = reverse at.log.samples in
    let knows = c.next-at.ensures.knows at.shapes.items earlier r c.self.invariant.0 of c.stamp.ensures in
    let known = subst (λ (ss : List (ℕ × Recorded)). KnowsSpots c.next-at.new.self at.shapes.items ss) (sym (reverse-push at.log.samples (c.args.place, r))) knows in
    rw c.note.ensures (
      known,
      λ ok.
          let went = went_on c.go_on.result ok in
          let has = c.self.invariant.1 (c.go_on.ensures.before went) in
          let text = subst (λ (o : Option ListPlan). Appends (text_written g.W.Write.contents at.rows) (text_written g.W.Write.contents c.go_on.new.rows) (text_at o c.next-at.result r)) of (c.go_on.ensures.text went) in
          rows_more g.W.Write.contents at.shapes.items (g.W.Write.contents at.start.value) at.log.samples c.args.place r c.next-at.result at.rows c.go_on.new.rows has
          (λ plan there. c.next-at.ensures.spot at.shapes.items plan earlier r c.self.invariant.0 of there c.stamp.ensures) text (c.go_on.ensures.between went),
    )
