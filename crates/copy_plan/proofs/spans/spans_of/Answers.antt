use Rattle.std.proofs.Common.{length, arith, ◌≡◌, ◌+◌, List, ◌∷◌, Option, ◌++◌, ◌≤◌, drop, subst, sym, ◌∙◌, ℕ}
use Rattle.std.specs.Prelude.{All}
use Rattle.std.proofs.lemmas.List.{at_drop_all}
use Rattle.std.proofs.lemmas.List.Elements.{All-push}
use Rattle.copy_plan.specs.declared.span.Span.{Span}
use Rattle.daq_store.specs.declared.entry.Entry.{Entry}
use Rattle.daq_store.specs.Configuration.{odt_entries}
use Rattle.copy_plan.specs.Config.{OdtEntry, written_entries}
use Rattle.copy_plan.specs.Inner.Joined.{joined_spans, with_bytes}
use Rattle.copy_plan.specs.Inner.Stretched.{BeginsNear, LiesSomewhere}
use Rattle.copy_plan.proofs.WrittenLemmas.{lie-within, shown_by, written_entries-drop}
use Rattle.copy_plan.proofs.JoinedLemmas.{one_apart, one_joined, apart_if, lie-joined_spans, same_if}
use Rattle.copy_plan.proofs.spans.spans_of.Goals as goal
use Rattle.copy_plan.proofs.spans.spans_of.Goals.{then-not-begins_at+in_ok-push, else-not-begins_at}

-- the next entry begins at the end of the bytes in hand, or they are a span
pub loop-entry-preserved : goal.loop-entry-preserved
loop-entry-preserved c =
    let channel = c.args.channel in
    let segments = c.args.segments.now in
    let es : List (Option Entry) = odt_entries c.args.conf.now c.args.odt in
    let all : List Span = joined_spans (written_entries channel segments es) in
    let ends : ℕ × ℕ = c.ends_of-next.result in
    let by = shown_by channel segments es c.loop-entry.entry ends c.ends_of-next.ensures.ends in
    let e : OdtEntry = (ends.0, by.size) in
    let rest : List OdtEntry = written_entries channel segments (drop (c.loop-entry.entry + 1) es) in
    let step : written_entries channel segments (drop c.loop-entry.entry es) ≡ e ∷ rest = written_entries-drop channel segments es c.loop-entry.entry e by.is in
    let here = rw step at c.loop-entry.invariant.0 in
    elim c.if-not-begins_at.branch [
      | then-not-begins_at+in_ok-push w ↦
          let held = one_apart c.loop-entry.spans.items all c.loop-entry.start c.loop-entry.end e rest here (apart_if ends.0 c.loop-entry.end (sym c.begins_at.ensures ∙ w.if-not-begins_at.true)) in
          rw (w.spans-is, w.start-is, w.in_ok-push.ensures.items) (
            rw by.end at held,
            All-push (BeginsNear channel segments) c.loop-entry.spans.items (record { start = c.loop-entry.start; end = c.loop-entry.end }) c.loop-entry.invariant.1 c.loop-entry.invariant.2,
            c.ends_of-next.ensures.near,
          )
      | else-not-begins_at w ↦
          let held = one_joined c.loop-entry.spans.items all c.loop-entry.start c.loop-entry.end e rest here (same_if ends.0 c.loop-entry.end (sym c.begins_at.ensures ∙ w.if-not-begins_at.false)) in
          rw (w.spans-is, w.start-is) (rw by.end at held, c.loop-entry.invariant.1, c.loop-entry.invariant.2)
    ]

-- each span lies where its entries lie
pub returns-clause-lie : goal.returns-clause-lie
returns-clause-lie c =
    let channel = c.args.channel in
    let segments = c.args.segments.now in
    let es : List (Option Entry) = odt_entries c.args.conf.now c.args.odt in
    let done : length es ≤ c.loop-entry.entry = omega (arith, c.loop-entry-test.false, c.entries-entry-end.ensures.count) in
    let F : List (Option Entry) → List Span = λ left. c.loop-entry.spans.items ++ with_bytes c.loop-entry.start c.loop-entry.end (joined_spans (written_entries channel segments left)) in
    let is : c.push-2.new.self.items ≡ joined_spans (written_entries channel segments es)
    = c.in_ok-push-2.ensures.items ∙ sym (at_drop_all F es c.loop-entry.entry done) ∙ c.loop-entry.invariant.0 in
    subst (All (LiesSomewhere channel segments)) (sym is) (lie-joined_spans channel segments (written_entries channel segments es) (lie-within channel segments es c.requires.within))

-- and begins near the start of its segment
pub returns-clause-near : goal.returns-clause-near
returns-clause-near c =
    let P : Span → Type 0 = BeginsNear c.args.channel c.args.segments.now in
    let last : Span = record { start = c.loop-entry.start; end = c.loop-entry.end } in
    subst (All P) (sym c.in_ok-push-2.ensures.items) (All-push P c.loop-entry.spans.items last c.loop-entry.invariant.1 c.loop-entry.invariant.2)
