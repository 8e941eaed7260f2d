-- What was taken and written by the end of a run whose writer didn't fail.
use Rattle.std.proofs.Common.{◌≡◌, ℕ, ◌<◌, Bool, true, false, List, [], ◌++◌, refl, sym, ap, subst, ◌∙◌, arith, append-nil}
use Rattle.std.specs.Prelude.{Option, None, Some, Ok, Err}
use Rattle.std.proofs.lemmas.Bool.{false≢true}
use Rattle.std.proofs.lemmas.List.{append_cancel_left}
use Rattle.xcp_base.specs.Samples.{SampleParts}
use Rattle.xcp_base.specs.declared.item.Item.{Item}
use Rattle.xcp_base.specs.declared.limits.TheConstants.{MAX_TAKEN}
use Rattle.frame_writer.specs.Shown.{OutState, Rose}
use Rattle.frame_writer.specs.Writing.{AfterText, WriterState}
use Rattle.run_file.specs.RunFile.{RunData}
use Rattle.sampler.specs.Past.{Past}
use Rattle.sampler.specs.State.{sent_by}
use Rattle.transmitter.specs.Items.{packets_of, samples}
use Rattle.transmitter.specs.Merge.{items_taken, of_ring, taken_from}
use Rattle.transmitter.specs.Written.{HasTaken, HasWritten, TransmitterState, in_hand}
use Rattle.transmitter.specs.declared.faults.PumpFault.TheVariants.{Closed, Failed, Spent}
use Rattle.daq_engine.specs.Closed.{WasDrained}
use Rattle.daq_engine.specs.declared.report.Report.{Report}
use Rattle.daq_engine.proofs.EndLemmas.{sent_at}
use Rattle.daq_run.specs.StepRuns.{sent_in}
use Rattle.daq_run.proofs.AskLemmas.{sampler_at}
use Rattle.daq_run.specs.Runs.{IsClosed}
use Rattle.daq_run.proofs.DrainedLemmas.{Empties, empties_same}

-- where nothing went wrong, no sample is in hand, and the text of all samples taken was written
written_of : (begun now : WriterState) (whole all : List SampleParts) (hand : Option SampleParts) → whole ++ in_hand hand ≡ all → HasWritten begun now whole hand → (Rose begun.out now.out → ⊥)
    → (hand ≡ None) × AfterText begun now (packets_of all)
written_of begun now whole all None is writes calm = (refl, subst (λ ss. AfterText begun now (packets_of ss)) (sym (append-nil whole) ∙ is) writes)
written_of begun now whole all (Some s) is writes calm =
    let between = writes.0 in
    let failures : between.out.failures ≡ begun.out.failures = ap (λ (o : OutState). o.failures) writes.1.out in
    let stalls : between.out.stalls ≡ begun.out.stalls = ap (λ (o : OutState). o.stalls) writes.1.out in
    let rose : Rose begun.out now.out = rw (← failures, ← stalls) writes.2.out.rose in
    absurd (calm rose)

module _ (begun : WriterState) (t : TransmitterState) (ps : List (ℕ × Item)) (taken : HasTaken begun t ps) (calm : Rose begun.out t.writer.out → ⊥) where
  pub all_written : (t.hand ≡ None) × AfterText begun t.writer (packets_of (samples (items_taken ps)))
  all_written = written_of begun t.writer taken.whole (samples (items_taken ps)) t.hand taken.samples taken.writes calm

  still_open : t.writer.closed ≡ false
  still_open = all_written.1.closed ∙ taken.was_open

-- what is known of the rings is of no weight
known_more : (begun : WriterState) (t : TransmitterState) (left : List (List Item)) (ps : List (ℕ × Item)) → HasTaken begun t ps → HasTaken begun (record t { known = left }) ps
known_more begun t left ps h = record {
  was_open = h.was_open;
  merge = h.merge;
  taken = h.taken;
  last = h.last;
  whole = h.whole;
  samples = h.samples;
  legal = h.legal;
  writes = h.writes;
  written = h.written;
}

-- what was taken in all: behind what the steps took, what a drain took, if there was one
abbrev pub DrainedOf : Bool → (ℕ → List Item) → (ℕ → List Item) → List (ℕ × Item) → Type 0
DrainedOf true received sent more = Empties received sent more
DrainedOf false received sent more = more ≡ []

pub record TookInAll (drain : Bool) (begun : WriterState) (last : TransmitterState) (ps : List (ℕ × Item)) (sent : ℕ → List Item) : Type 0 where
  pub more : List (ℕ × Item)
  pub taken : HasTaken begun last (ps ++ more)
  pub drained : DrainedOf drain (λ c. taken_from c ps) sent more

module _ (begun : WriterState) (a b : TransmitterState) (ps : List (ℕ × Item)) (sent : List (List Item)) (before : HasTaken begun a ps)
    (hand : b.hand ≡ None) (is_open : b.writer.closed ≡ false) where
  pub open_before : (drain : Bool) → WasDrained drain sent a b → a.writer.closed ≡ false
  open_before false drained = ap (λ (t : TransmitterState). t.writer.closed) (sym drained) ∙ is_open
  open_before true (Ok u, drains) = drains.0.was_open
  open_before true (Err Failed, drains) = drains.0.was_open
  open_before true (Err Closed, drains) = ap (λ (t : TransmitterState). t.writer.closed) (sym drains.1) ∙ is_open
  open_before true (Err Spent, drains) = drains.0.was_open

  pub took_in_all : (drain : Bool) → WasDrained drain sent a b → (drain ≡ true → b.taken < MAX_TAKEN) → TookInAll drain begun b ps (of_ring sent)
  took_in_all false drained few = record {
    more = [];
    taken = subst (λ qs. HasTaken begun b qs) (sym (append-nil ps)) (subst (λ t. HasTaken begun t ps) (sym drained) before);
    drained = refl;
  }
  took_in_all true (Ok u, drains) few =
      let t = drains.0 in
      record {
        more = t.taken;
        taken = t.leads.stands begun ps (known_more begun a t.left ps before);
        drained = record {
          left = t.left;
          leaves = λ c. ap (λ xs. xs ++ of_ring t.left c) (before.merge.each c) ∙ t.leaves c;
          turns = t.turns;
          in_rounds = t.in_rounds;
          all = λ c. append_cancel_left (of_ring a.received c) (taken_from c t.taken) (of_ring t.left c)
              (sym (t.leads.takes.gains c) ∙ (drains.2 c ∙ sym (t.leaves c)));
        };
      }
  took_in_all true (Err Failed, drains) few = absurd (let some = drains.1.hand in cc)
  took_in_all true (Err Closed, drains) few = absurd (let was = drains.0 in let same = ap (λ (t : TransmitterState). t.writer.closed) drains.1 in cc)
  took_in_all true (Err Spent, drains) few = absurd (let f = few refl in omega (arith, f, drains.2))

-- of a drain that came to its end nothing is left
received_all : (a b : TransmitterState) (sent : List (List Item)) → b.hand ≡ None → b.writer.closed ≡ false → b.taken < MAX_TAKEN → WasDrained true sent a b → (c : ℕ) → of_ring b.received c ≡ of_ring sent c
received_all a b sent hand is_open few (Ok u, drains) = drains.2
received_all a b sent hand is_open few (Err Failed, drains) = absurd (let some = drains.1.hand in cc)
received_all a b sent hand is_open few (Err Closed, drains) = absurd (let was = drains.0 in let same = ap (λ (t : TransmitterState). t.writer.closed) drains.1 in cc)
received_all a b sent hand is_open few (Err Spent, drains) = absurd (omega (arith, few, drains.2))

pub more_same : (drain : Bool) (received others sent again : ℕ → List Item) (xs ys : List (ℕ × Item)) → ((c : ℕ) → received c ≡ others c) → ((c : ℕ) → sent c ≡ again c)
    → DrainedOf drain received sent xs → DrainedOf drain others again ys → xs ≡ ys
more_same true received others sent again xs ys one two a b = empties_same received others sent again xs ys one two a b
more_same false received others sent again xs ys one two a b = a ∙ sym b

-- an engine of a run that was closed, at which the writer didn't fail
module _ (run : RunData) (writer : WriterState) (past : ℕ → Past) (taken : List (ℕ × Item)) (t : TransmitterState) (report : Report) (after : OutState)
    (closing : IsClosed run writer past taken t report after) (good : report.failed ≡ false) where
  pub calm_at_last : Rose writer.out closing.closed.last.writer.out → ⊥
  calm_at_last rose = false≢true (sym good ∙ closing.closed.headline.settled.written.rose.1 rose)

  pub hand_empty : closing.closed.last.hand ≡ None
  hand_empty = (all_written writer closing.closed.last _ closing.closed.taken calm_at_last).0

  pub open_at_last : closing.closed.last.writer.closed ≡ false
  open_at_last = still_open writer closing.closed.last _ closing.closed.taken calm_at_last

  -- after a drain all was received
  pub all_received : run.drain ≡ true → (c : ℕ) → c < run.channels → of_ring closing.closed.last.received c ≡ sent_in (past c)
  all_received wanted c within =
      let many = closing.as_many in
      let e = sampler_at closing.ends c (omega (arith, within, many)) in
      let drained = subst (λ d. WasDrained d (sent_by closing.ends) t closing.closed.last) wanted closing.closed.drained in
      received_all t closing.closed.last (sent_by closing.ends) hand_empty open_at_last (closing.few_taken wanted) drained c
      ∙ (sent_at closing.ends c e.0 e.1 ∙ closing.sent c e.0 e.1)
