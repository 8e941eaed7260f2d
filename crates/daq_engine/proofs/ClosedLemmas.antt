-- A drain before an engine is closed.
use Rattle.std.proofs.Common.{◌≡◌, ℕ, ◌<◌, ◌++◌, Bool, false, true, List, Option, Some, None, Result, Ok, Err, sym, subst, ◌∙◌, arith}
use Rattle.std.specs.Prelude.{◌↔◌, IsTrue}
use Rattle.std.proofs.lemmas.Bool.{false≢true}
use Rattle.xcp_base.specs.Samples.{SampleParts}
use Rattle.xcp_base.specs.declared.item.Item.{Item}
use Rattle.xcp_base.specs.declared.limits.TheConstants.{MAX_TAKEN}
use Rattle.frame_writer.specs.Shown.{OutState, Rose}
use Rattle.frame_writer.specs.Writing.{WriterState}
use Rattle.sampler.specs.State.{JoinedEnd, sent_by}
use Rattle.transmitter.specs.Pumps.{TakesMore}
use Rattle.transmitter.specs.Rounds.{Drains}
use Rattle.transmitter.specs.Written.{HasTaken, HasWritten, TransmitterState}
use Rattle.transmitter.specs.declared.faults.PumpFault.{PumpFault}
use Rattle.transmitter.specs.declared.faults.PumpFault.TheVariants.{Closed, Failed, Spent}
use Rattle.daq_engine.specs.Closed.{HasClosed, WasDrained}
use Rattle.sampler.specs.Past.{Past}
use Rattle.daq_engine.specs.Drained.{DrainLeavesNothing, LeavesNothing}
use Rattle.daq_engine.specs.Headline.{AllStand, Headline}
use Rattle.daq_engine.specs.declared.report.Report.{Report}

-- a frame writer that was open and is closed has failed or stalled
closed_rose : (start b : WriterState) (whole : List SampleParts) (hand : Option SampleParts) → start.closed ≡ false → HasWritten start b whole hand → b.closed ≡ true → Rose start.out b.out
closed_rose start b whole None was_open written closed = absurd (false≢true (sym was_open ∙ (sym written.closed ∙ closed)))
closed_rose start b whole (Some s) was_open written closed = subst (λ o. Rose o b.out) written.1.out written.2.out.rose

-- a drain at which the writer didn't fail, of few items, answers Ok
drained_ok : (sent : List (List Item)) (start : WriterState) (a b : TransmitterState) (r : Result (Unit {0}) PumpFault) (ps qs : List (ℕ × Item))
    → Drains sent a b r → HasTaken start a ps → HasTaken start b qs → (Rose start.out b.writer.out → ⊥) → b.taken < MAX_TAKEN → Drains sent a b (Ok tt)
drained_ok sent start a b (Ok u) ps qs drains taken now none few = drains
drained_ok sent start a b (Err Failed) ps qs drains taken now none few =
    let written = subst (HasWritten start b.writer now.whole) drains.1.hand now.writes in
    absurd (none (closed_rose start b.writer now.whole (Some drains.1.sample) now.was_open written written.2.closed))
drained_ok sent start a b (Err Closed) ps qs drains taken now none few =
    let rose = closed_rose start a.writer taken.whole a.hand taken.was_open taken.writes drains.0 in
    absurd (none (subst (λ (t : TransmitterState). Rose start.out t.writer.out) (sym drains.1) rose))
drained_ok sent start a b (Err Spent) ps qs drains taken now none few = absurd (omega (arith, few, drains.2))

not_rose : (failed : Bool) (P : Type 0) → (IsTrue failed ↔ P) → failed ≡ false → P → ⊥
not_rose failed P w is p = false≢true (sym is ∙ w.1 p)

-- where no drain was wanted, none is asked about
nothing_left : (drain : Bool) (law : DrainLeavesNothing) (start : WriterState) (a last : TransmitterState) (ps qs : List (ℕ × Item)) (ends : List JoinedEnd) (past : ℕ → Past) (report : Report)
    → WasDrained drain (sent_by ends) a last → HasTaken start a ps → HasTaken start last qs → AllStand ends past → (h : Headline start last ends past report)
    → drain ≡ true → report.failed ≡ false → last.taken < MAX_TAKEN → LeavesNothing ends past report h.frames
nothing_left false law start a last ps qs ends past report drained taken now stand h wanted good few = absurd (false≢true wanted)
nothing_left true law start a last ps qs ends past report drained taken now stand h wanted good few =
    let none = not_rose report.failed (Rose start.out last.writer.out) h.settled.written.rose good in
    law start a last ends past report (drained_ok (sent_by ends) start a last drained.0 ps qs drained.1 taken now none few) stand h

-- so an engine is closed
pub has_closed : (drain : Bool) (law : DrainLeavesNothing) (start : WriterState) (a last : TransmitterState) (ps : List (ℕ × Item)) (ends : List JoinedEnd) (past : ℕ → Past) (report : Report) (out : OutState)
    → WasDrained drain (sent_by ends) a last → TakesMore a last → HasTaken start a ps → AllStand ends past
    → ((qs : List (ℕ × Item)) → HasTaken start last qs → Headline start last ends past report) → last.writer.out ≡ out
    → HasClosed drain start ps a ends past report out
has_closed drain law start a last ps ends past report out drained more taken stand closes written =
    let now = more start ps taken in
    let h = closes (ps ++ now.0) now.1 in
    record {
      last = last;
      drained = drained;
      more = now.0;
      taken = now.1;
      headline = h;
      written = written;
      nothing_left = nothing_left drain law start a last ps (ps ++ now.0) ends past report drained taken now.1 stand h;
    }
