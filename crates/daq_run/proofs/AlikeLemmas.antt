-- Two outcomes of one run whose rings refused the same offers are the same.
use Rattle.std.proofs.Common.{◌≡◌, ◌≢◌, ℕ, zero, suc, ◌+◌, ◌%◌, ◌<◌, inl, inr, All, Any, false, List, [], ◌∷◌, ◌++◌, length, map, refl, sym, ap, ap₂, subst, ◌∙◌, arith, append_assoc}
use Rattle.std.specs.Prelude.{Option, None, Some, count_by, slice_get}
use Rattle.std.proofs.lemmas.Bool.Decides.{leb_tells}
use Rattle.std.proofs.lemmas.List.{length-map}
use Rattle.std.proofs.lemmas.List.Elements.{All-head, All-tail}
use Rattle.xcp_base.specs.declared.item.Item.{Item}
use Rattle.copy_plan.specs.Config.{ListPlan}
use Rattle.frame_writer.specs.Frame.{text}
use Rattle.frame_writer.specs.Shown.{OutState, Rose, after_bytes}
use Rattle.frame_writer.proofs.TextLemmas.{text-append, text-mod}
use Rattle.run_file.specs.Limits.{HasLimits, IsStepWithin}
use Rattle.run_file.specs.RunFile.{RunData}
use Rattle.run_file.specs.Steps.{StepData, pump, start, stop, trigger}
use Rattle.sampler.specs.History.{Event, Opening}
use Rattle.sampler.specs.Past.{Past}
use Rattle.sampler.specs.State.{JoinedEnd, sent_by}
use Rattle.sampler.specs.declared.faults.StopFault.TheVariants.{NoRoom, NotOfChannel, NotRunning}
use Rattle.transmitter.specs.Items.{packets_of, samples}
use Rattle.transmitter.specs.Merge.{items_taken, of_ring, taken_from}
use Rattle.daq_engine.specs.Account.{IsLineOf, IsLineOfSome}
use Rattle.daq_engine.specs.Frames.{packets_of_frames}
use Rattle.daq_engine.specs.Openings.{IsOpeningOf}
use Rattle.daq_engine.specs.declared.report.ListReport.{ListReport}
use Rattle.daq_engine.proofs.EndLemmas.{sent_at}
use Rattle.daq_run.specs.declared.cause.Cause.{Cause}
use Rattle.daq_run.specs.declared.cause.Cause.TheVariants.{Start as OfStart, Stop as OfStop, Trigger as OfTrigger}
use Rattle.daq_run.specs.Answers.{Answered}
use Rattle.daq_run.specs.StepLaws.{is_no_room, markers_refused}
use Rattle.daq_run.specs.StepRuns.{AreDone, Done, IsStepOf, is_refused_step, sent_in, taken_in}
use Rattle.daq_run.specs.Steps.{asked_of, run_step}
use Rattle.daq_run.proofs.AskLemmas.{sampler_at}
use Rattle.daq_run.proofs.LawLemmas.{refusals_decide}
use Rattle.daq_run.specs.Alike.{AmpleRunsAreSame, AreSame, IsWritten, RefuseAlike, RefusalsDecideRuns, RingsHoldAll, RunOutcome, past_of, told_in}
use Rattle.daq_run.specs.Ample.{DropsNothing, ample_past}
use Rattle.daq_run.specs.Runs.{IsClosed, settings_of_run}
use Rattle.daq_run.specs.SetUps.{replies_of}
use Rattle.daq_run.proofs.AmpleLemmas.{ample}
use Rattle.daq_run.proofs.DrainLemmas.{none_beyond}
use Rattle.daq_run.proofs.SameLines.{IsIn, line_there, same_lines}
use Rattle.daq_run.proofs.ClosingLemmas.{TookInAll, all_written, calm_at_last, hand_empty, more_same, open_at_last, open_before, took_in_all}
use Rattle.daq_run.proofs.OpeningLemmas.{opening_same, store_same}

-- the steps of a run are of its channels
of_channels : (n : ℕ) (steps : List StepData) → All (IsStepWithin n) steps → All (IsStepOf n) (map run_step steps)
of_channels n [] all = λ k d within. absurd (omega (arith, within))
of_channels n (x ∷ xs) all = all_cons (IsStepOf n) (run_step x) (map run_step xs) (one x (All-head (IsStepWithin n) x xs all)) (of_channels n xs (All-tail (IsStepWithin n) x xs all))
  where
    one : (x : StepData) → IsStepWithin n x → IsStepOf n (run_step x)
    one (trigger c stamp image) h = h.0
    one (start c l) h = h.0
    one (stop c l) h = h.0
    one pump h = tt

    all_cons : {X : Type 0} (P : X → Type 0) (y : X) (ys : List X) → P y → All P ys → All P (y ∷ ys)
    all_cons P y ys first rest zero d within = first
    all_cons P y ys first rest (suc k) d within = rest k d (omega (arith, within))

-- what was sent to each ring, by the past of its channel
sent_alike : (n : ℕ) (xs ys : List JoinedEnd) (past other : ℕ → Past) → length xs ≡ n → length ys ≡ n
    → ((c : ℕ) (e : JoinedEnd) → slice_get xs c ≡ Some e → e.sent ≡ sent_in (past c)) → ((c : ℕ) (e : JoinedEnd) → slice_get ys c ≡ Some e → e.sent ≡ sent_in (other c))
    → ((c : ℕ) → c < n → past c ≡ other c) → (c : ℕ) → of_ring (sent_by xs) c ≡ of_ring (sent_by ys) c
sent_alike n xs ys past other many again sent sends same c = elim (leb_tells n c) [
  | inl w ↦
      none_beyond (sent_by xs) c (omega (arith, w.1, many, length-map xs (λ (e : JoinedEnd). e.sent)))
      ∙ sym (none_beyond (sent_by ys) c (omega (arith, w.1, again, length-map ys (λ (e : JoinedEnd). e.sent))))
  | inr w ↦
      (let x = sampler_at xs c (omega (arith, w.1, many)) in
      let y = sampler_at ys c (omega (arith, w.1, again)) in
      sent_at xs c x.0 x.1 ∙ (sent c x.0 x.1 ∙ (ap sent_in (same c (omega (arith, w.1))) ∙ sym (sent_at ys c y.0 y.1 ∙ sends c y.0 y.1))))
]

-- an outcome whose writer didn't fail
module _ (run : RunData) (o : RunOutcome run) (good : IsWritten o) where
  abbrev closing : IsClosed run o.comes_to.has_run.writer o.comes_to.has_run.past (taken_in o.comes_to.has_run.done) o.comes_to.has_run.transmitter o.report o.after
  closing = o.comes_to.closed

  calm : Rose o.comes_to.has_run.writer.out closing.closed.last.writer.out → ⊥
  calm = calm_at_last run o.comes_to.has_run.writer (past_of o) (taken_in o.comes_to.has_run.done) o.comes_to.has_run.transmitter o.report o.after closing good

  no_hand : closing.closed.last.hand ≡ None
  no_hand = hand_empty run o.comes_to.has_run.writer (past_of o) (taken_in o.comes_to.has_run.done) o.comes_to.has_run.transmitter o.report o.after closing good

  last_open : closing.closed.last.writer.closed ≡ false
  last_open = open_at_last run o.comes_to.has_run.writer (past_of o) (taken_in o.comes_to.has_run.done) o.comes_to.has_run.transmitter o.report o.after closing good

  open_at_steps : o.comes_to.has_run.transmitter.writer.closed ≡ false
  open_at_steps =
      open_before o.comes_to.has_run.writer o.comes_to.has_run.transmitter closing.closed.last (taken_in o.comes_to.has_run.done) (sent_by closing.ends) o.comes_to.has_run.taken no_hand last_open run.drain
      closing.closed.drained

  done_open : AreDone run.channels (settings_of_run run) (map run_step run.steps) false (past_of o) o.comes_to.has_run.done
  done_open = subst (λ f. AreDone run.channels (settings_of_run run) (map run_step run.steps) f (past_of o) o.comes_to.has_run.done) open_at_steps o.comes_to.has_run.are_done

  in_all : TookInAll run.drain o.comes_to.has_run.writer closing.closed.last (taken_in o.comes_to.has_run.done) (of_ring (sent_by closing.ends))
  in_all =
      took_in_all o.comes_to.has_run.writer o.comes_to.has_run.transmitter closing.closed.last (taken_in o.comes_to.has_run.done) (sent_by closing.ends) o.comes_to.has_run.taken no_hand last_open run.drain
      closing.closed.drained closing.few_taken

  -- all items taken
  abbrev everything : List (ℕ × Item)
  everything = taken_in o.comes_to.has_run.done ++ in_all.more

  -- the bytes are the text of the replies and of the samples among them
  bytes_of : o.after ≡ after_bytes o.before (text 0 (replies_of run ++ packets_of (samples (items_taken everything))))
  bytes_of =
      let w = o.comes_to.has_run.writer in
      let replies = replies_of run in
      let qs = packets_of (samples (items_taken everything)) in
      let replied = o.comes_to.has_run.has_pasts.set_up.replied in
      let sent = (all_written w closing.closed.last everything in_all.taken calm).1 in
      let number : w.counter % 65536 ≡ (0 + length replies) % 65536 = replied.counter in
      let joined : text 0 (replies ++ qs) ≡ text 0 replies ++ text w.counter qs = text-append 0 replies qs ∙ ap (λ t. text 0 replies ++ t) (sym (text-mod w.counter (0 + length replies) qs number)) in
      sym closing.closed.written
      ∙ (sent.out
      ∙ (ap (λ (s : OutState). after_bytes s (text w.counter qs)) replied.out
      ∙ ap (λ (xs : List ℕ). record o.before { contents = xs }) (append_assoc o.before.contents (text 0 replies) (text w.counter qs) ∙ ap (λ t. o.before.contents ++ t) (sym joined))))

  -- what is told of a channel in the account
  line_of : (c i : ℕ) (plan : ListPlan) → c < run.channels → slice_get (past_of o c).opening.plans i ≡ Some plan
      → Any (IsLineOf (past_of o c) plan (packets_of_frames closing.closed.headline.frames) (sent_in (past_of o c)) (taken_from c everything) None) o.report.lists.items
  line_of c i plan within at =
      let many = closing.as_many in
      let e = sampler_at closing.ends c (omega (arith, within, many)) in
      let frames = packets_of_frames closing.closed.headline.frames in
      let found = closing.closed.headline.account.each c i e.0 plan e.1 at in
      let own = subst (λ xs. IsLineOf (past_of o c) plan frames xs (of_ring closing.closed.last.received c) closing.closed.last.hand found.1) (closing.sent c e.0 e.1) found.4 in
      let taken = subst (λ xs. IsLineOf (past_of o c) plan frames (sent_in (past_of o c)) xs closing.closed.last.hand found.1) (sym (in_all.taken.merge.each c)) own in
      (found.0, found.1, found.2, found.3, subst (λ h. IsLineOf (past_of o c) plan frames (sent_in (past_of o c)) (taken_from c everything) h found.1) no_hand taken)

module _ (run : RunData) (limits : HasLimits run) where
  -- the openings of two outcomes are the same
  openings_alike : (a b : RunOutcome run) (c : ℕ) → c < run.channels → (past_of a c).opening ≡ (past_of b c).opening
  openings_alike a b c within =
      let p = a.comes_to.has_run.has_pasts in
      let q = b.comes_to.has_run.has_pasts in
      let same : p.store ≡ q.store = store_same run run.setup p.store q.store p.set_up.store q.set_up.store in
      opening_same q.store c (past_of a c).opening (past_of b c).opening (subst (λ s. IsOpeningOf s c (past_of a c).opening) same (p.openings c within)) (q.openings c within)

  -- the lines of the one are lines of the other
  lines_among : (a b : RunOutcome run) (good : IsWritten a) (fine : IsWritten b) → ((c : ℕ) → c < run.channels → past_of a c ≡ past_of b c) → everything run a good ≡ everything run b fine
      → (x : ListReport) → IsIn x a.report.lists.items → IsIn x b.report.lists.items
  lines_among a b good fine pasts same x is =
      let h = a.comes_to.closed.closed.headline.account in
      let k = b.comes_to.closed.closed.headline.account in
      let qs = packets_of_frames a.comes_to.closed.closed.headline.frames in
      let rs = packets_of_frames b.comes_to.closed.closed.headline.frames in
      let sent : ℕ → List Item = λ c. sent_in (past_of a c) in
      let received : ℕ → List Item = λ c. taken_from c (everything run a good) in
      let no_other = subst (λ n. All (IsLineOfSome n (past_of a)) a.report.lists.items) a.comes_to.closed.as_many h.no_other in
      let all : (c i : ℕ) (plan : ListPlan) → c < run.channels → slice_get (past_of b c).opening.plans i ≡ Some plan → Any (IsLineOf (past_of b c) plan rs (sent c) (received c) None) b.report.lists.items =
      λ c i plan within at.
      subst (λ ps. Any (IsLineOf (past_of b c) plan rs (sent_in (past_of a c)) (taken_from c ps) None) b.report.lists.items) (sym same)
      (subst (λ (p : Past). Any (IsLineOf (past_of b c) plan rs (sent_in p) (taken_from c (everything run b fine)) None) b.report.lists.items) (sym (pasts c within)) (line_of run b fine c i plan within at)) in
      line_there run.channels (past_of a) (past_of b) pasts a.report.lists.items b.report.lists.items qs rs sent received None h.rising k.rising no_other (line_of run a good) all x is

  module _ (a b : RunOutcome run) (good : IsWritten a) (fine : IsWritten b) (alike : RefuseAlike a b) where
    decided : (a.comes_to.has_run.done ≡ b.comes_to.has_run.done) × ((c : ℕ) → c < run.channels → past_of a c ≡ past_of b c)
    decided =
        refusals_decide run.channels (settings_of_run run) (map run_step run.steps) (past_of a) (past_of b) a.comes_to.has_run.done b.comes_to.has_run.done (of_channels run.channels run.steps limits.each_step)
        (done_open run a good) (done_open run b fine) (openings_alike a b) alike

    taken_alike : everything run a good ≡ everything run b fine
    taken_alike =
        let steps : taken_in a.comes_to.has_run.done ≡ taken_in b.comes_to.has_run.done = ap taken_in decided.0 in
        let x = in_all run a good in
        let y = in_all run b fine in
        let p = a.comes_to.closed in
        let q = b.comes_to.closed in
        let more : x.more ≡ y.more =
        more_same run.drain (λ c. taken_from c (taken_in a.comes_to.has_run.done)) (λ c. taken_from c (taken_in b.comes_to.has_run.done)) (of_ring (sent_by p.ends)) (of_ring (sent_by q.ends)) x.more y.more
        (λ c. ap (taken_from c) steps) (sent_alike run.channels p.ends q.ends (past_of a) (past_of b) p.as_many q.as_many p.sent q.sent decided.1) x.drained y.drained in
        ap₂ (λ xs ys. xs ++ ys) steps more

    lines_alike : a.report.lists.items ≡ b.report.lists.items
    lines_alike =
        same_lines a.report.lists.items b.report.lists.items a.comes_to.closed.closed.headline.account.rising b.comes_to.closed.closed.headline.account.rising
        (lines_among a b good fine decided.1 taken_alike) (lines_among b a fine good (λ c within. sym (decided.1 c within)) (sym taken_alike))

    pub same : AreSame a b
    same = record {
      gained = text 0 (replies_of run ++ packets_of (samples (items_taken (everything run a good))));
      first = bytes_of run a good;
      second = bytes_of run b fine ∙ ap (λ ps. after_bytes b.before (text 0 (replies_of run ++ packets_of (samples (items_taken ps))))) (sym taken_alike);
      lines = lines_alike;
      failed = good ∙ sym fine;
      refused = a.comes_to.has_run.counted ∙ (ap (λ (ds : List Done). count_by is_refused_step ds) decided.0 ∙ sym b.comes_to.has_run.counted);
      pasts = decided.1;
    }

-- a channel that was never told of room refused no marker
no_marker : (told : List Answered) → ((i : ℕ) (e : Event) → slice_get told i ≢ Some (e, Some (OfStop NoRoom))) → markers_refused told ≡ map (λ (e : Event). false) (map (λ (a : Answered). a.0) told)
no_marker [] never = refl
no_marker ((e, a) ∷ told) never = ap₂ (λ b bs. b ∷ bs) (room e a (λ is. never 0 e (told_so e a (Some (OfStop NoRoom)) is))) (no_marker told (λ i f. never (suc i) f))
  where
    told_so : (e : Event) (a b : Option Cause) → a ≡ b → ◌≡◌ {A = Option Answered} (Some (e, a)) (Some (e, b))
    told_so e a b is = ap (λ (x : Option Cause). Some (e, x)) is

    room : (e : Event) (a : Option Cause) → (a ≡ Some (OfStop NoRoom) → ⊥) → is_no_room a ≡ false
    room e None never = refl
    room e (Some (OfTrigger fault)) never = refl
    room e (Some (OfStart fault)) never = refl
    room e (Some (OfStop NotOfChannel)) never = refl
    room e (Some (OfStop NotRunning)) never = refl
    room e (Some (OfStop NoRoom)) never = absurd (never refl)

module _ (run : RunData) (limits : HasLimits run) (holds : RingsHoldAll run) where
  -- a ring that holds all refuses nothing
  drops_nothing : (o : RunOutcome run) (c : ℕ) → c < run.channels → DropsNothing (settings_of_run run c) (asked_of c (map run_step run.steps)) (told_in o c) (past_of o c)
  drops_nothing o c within =
      let h = o.comes_to.has_run in
      let p = h.has_pasts in
      ample (settings_of_run run c) (asked_of c (map run_step run.steps)) (told_in o c) (past_of o c) (holds p.store c (past_of o c).opening p.set_up.store within (p.openings c within)) (h.are_done.answered c within) (p.decided c within) (p.drops c within)

  refuse_alike : (a b : RunOutcome run) → RefuseAlike a b
  refuse_alike a b c within =
      let x = drops_nothing a c within in
      let y = drops_nothing b c within in
      let asks = (a.comes_to.has_run.are_done.answered c within).asks in
      let asks_again = (b.comes_to.has_run.are_done.answered c within).asks in
      let samples : (past_of a c).decisions ≡ (past_of b c).decisions = x.decisions ∙ (ap (λ (o : Opening). (ample_past (settings_of_run run c) o (asked_of c (map run_step run.steps))).decisions) (openings_alike run limits a b c within) ∙ sym y.decisions) in
      record {
        samples = samples;
        markers = no_marker (told_in a c) x.no_room ∙ (ap (λ es. map (λ (e : Event). false) es) (asks ∙ sym asks_again) ∙ sym (no_marker (told_in b c) y.no_room));
      }

pub refusals_decide_runs : (run : RunData) → HasLimits run → RefusalsDecideRuns run
refusals_decide_runs run limits a b good fine alike = same run limits a b good fine alike

pub ample_runs_are_same : (run : RunData) → HasLimits run → AmpleRunsAreSame run
ample_runs_are_same run limits holds a b good fine = same run limits a b good fine (refuse_alike run limits holds a b)
