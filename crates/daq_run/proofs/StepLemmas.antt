-- An engine does one step more.
use Rattle.std.proofs.Common.{◌≡◌, ℕ, suc, ◌+◌, ◌*◌, ◌<◌, ◌≤◌, inl, inr, List, [], ◌∷◌, ◌++◌, length, Bool, true, false, cond, refl, sym, ap, ap₂, subst, ◌∙◌, arith, append-nil, length-append}
use Rattle.std.specs.Prelude.{Option, Some, None, Result, Ok, Err, count_by, flat_map, nat_eq, slice_get, slice_index}
use mathlib.Core.List.{IsPrefix}
use Rattle.std.specs.Option.{is_some}
use Rattle.std.proofs.lemmas.List.{length-map}
use Rattle.std.proofs.lemmas.List.Sums.{sum_by-append}
use Rattle.std.proofs.lemmas.Bool.Decides.{eqb_tells}
use Rattle.xcp_base.specs.declared.item.Item.{Item}
use Rattle.xcp_base.specs.declared.limits.TheConstants.{MAX_TAKEN}
use Rattle.xcp_base.specs.Samples.{SampleParts}
use Rattle.channel_ring.specs.declared.ends.SendEnd.{Ghosts as SendGhosts}
use Rattle.channel_ring.specs.declared.ends.RingEnd.{Ghosts as EndGhosts}
use Rattle.frame_writer.specs.Writing.{WriterState}
use Rattle.sampler.specs.History.{Event, Opening, due}
use Rattle.sampler.specs.State.{SamplerState}
use Rattle.transmitter.specs.Merge.{of_ring}
use Rattle.transmitter.specs.Pumps.{PumpAnswers}
use Rattle.transmitter.specs.Rounds.{round}
use Rattle.transmitter.specs.Written.{HasTaken, HasWritten, TransmitterState}
use Rattle.transmitter.specs.declared.pumped.Pumped.{Pumped as PumpedOk}
use Rattle.transmitter.specs.declared.faults.PumpFault.{PumpFault}
use Rattle.transmitter.specs.declared.faults.PumpFault.TheVariants.{Closed, Failed, Spent}
use Rattle.sampler.specs.Past.{Past, first_past}
use Rattle.daq_engine.specs.Engines.{EngineState, Standing, Stands, StaysBut, first_standing}
use Rattle.daq_engine.specs.Events.{PumpsOn}
use Rattle.daq_engine.specs.Samplers.{StayThose, sent_of_each}
use Rattle.daq_engine.proofs.BesideLemmas.{as_many_stay}
use Rattle.daq_run.specs.declared.cause.Cause.{Cause}
use Rattle.daq_run.specs.Answers.{Answered, AreAnswered, IsAnswer, Setting}
use Rattle.daq_run.specs.StepRuns.{AnswersAt, AreDone, DoesStep, Done, HasDone, Pumped, TakesFront, Told, after_answer, is_refused_step, sent_in, settings_of_samplers, step_done, taken_at, taken_in, told_at, told_of}
use Rattle.daq_run.specs.Steps.{Ask, Pump, RunStep, asked_at, asked_of}
use Rattle.daq_run.proofs.AskLemmas.{read_at, sampler_at}
use Rattle.daq_run.proofs.DoneLemmas.{answered_more, answered_still, done_more, taken-more}

-- a round has at most one item of each list
length-round : (c : ℕ) (lists : List (List Item)) → length (round c lists) ≤ length lists
length-round c [] = omega arith
length-round c ([] ∷ lists) = omega (arith, length-round (c + 1) lists)
length-round c ((x ∷ xs) ∷ lists) = omega (arith, length-round (c + 1) lists)

-- a list that has at most n elements for each of some others
pub length-parts : {X Y : Type 0} (f : X → List Y) (n : ℕ) (xs : List X) → ((i : ℕ) (x : X) → slice_get xs i ≡ Some x → length (f x) ≤ n) → length (flat_map f xs) ≤ n * length xs
length-parts f n [] each = omega arith
length-parts f n (x ∷ xs) each =
    let one = each 0 x refl in
    let rest = length-parts f n xs (λ i y at. each (suc i) y at) in
    let both = length-append (f x) (flat_map f xs) in
    omega (arith, one, rest, both)

-- so many items at most were taken by so many steps
module _ (n : ℕ) (settings : ℕ → Setting) (steps : List RunStep) (failed : Bool) (past : ℕ → Past) (done : List Done) (are : AreDone n settings steps failed past done) where
  few_at : (i : ℕ) (x : Done) → slice_get done i ≡ Some x → length (taken_at x) ≤ n
  few_at i (Told c e answer) at = omega arith
  few_at i (Pumped qs) at =
      let t = are.pumped i qs at in
      let all = ap length t.front.1 in
      let parts = length-append qs t.front.0 in
      omega (arith, all, parts, length-round 0 t.left, t.as_many)

  pub few_taken : length (taken_in done) ≤ n * length steps
  few_taken =
      let few = length-parts taken_at n done few_at in
      let many : length done ≡ length steps = sym (length-map done step_done) ∙ ap length are.steps_done in
      subst (λ k. length (taken_in done) ≤ n * k) many few

-- a pump takes the first items left, and all of them where the writer is open afterwards; then it was open before
module _ (a b : TransmitterState) (qs : List (ℕ × Item)) (left : List (List Item)) where
  pub front_of : (answer : Result PumpedOk PumpFault) → PumpAnswers a b qs answer
      → ((p : PumpedOk) → answer ≡ Ok p → qs ≡ round 0 left) → (answer ≡ Err Failed → IsPrefix qs (round 0 left))
      → ((s : SampleParts) → b.hand ≡ Some s → b.writer.closed ≡ true) → a.taken < MAX_TAKEN
      → IsPrefix qs (round 0 left) × (b.writer.closed ≡ false → (qs ≡ round 0 left) × (a.writer.closed ≡ false))
  front_of (Ok p) answers all front shut few =
      let is = all p refl in
      (([], append-nil qs ∙ is), λ h. (is, answers.could.0))
  front_of (Err Failed) answers all front shut few =
      (front refl, λ h. absurd (let closed = shut answers.sample answers.hand in cc))
  front_of (Err Closed) answers all front shut few =
      ((round 0 left, ap (λ ps. ps ++ round 0 left) answers.2), λ h. absurd (let same = ap (λ (t : TransmitterState). t.writer.closed) answers.1 in let closed = answers.0 in cc))
  front_of (Err Spent) answers all front shut few = absurd (omega (arith, answers.1, few))

-- a sample in hand: the writer failed
shut_in_hand : (start : WriterState) (t : TransmitterState) (ps : List (ℕ × Item)) → HasTaken start t ps → (s : SampleParts) → t.hand ≡ Some s → t.writer.closed ≡ true
shut_in_hand start t ps taken s is =
    let writes = subst (λ h. HasWritten start t.writer taken.whole h) is taken.writes in
    writes.2.closed

-- one step more is counted
counted-more : (done : List Done) (x : Done) (refused : ℕ) → refused ≡ count_by is_refused_step done → refused + cond (is_refused_step x) 1 0 ≡ count_by is_refused_step (done ++ x ∷ [])
counted-more done x refused e =
    let all = sum_by-append (λ (y : Done). cond (is_refused_step y) 1 0) done (x ∷ []) in
    omega (arith, all, e)

-- a question is no pump
no_pump : (c : ℕ) (e : Event) (answer : Option Cause) (ps : List (ℕ × Item)) → Told c e answer ≡ Pumped ps → ⊥
no_pump c e answer ps is = cc

-- the decisions that channel k has more, where channel c was asked for something
abbrev more_decided : ℕ → List Bool → Option Cause → ℕ → List Bool
more_decided c ds None k = cond (nat_eq k c) ds []
more_decided c ds (Some cause) k = []

opened_still : (c : ℕ) (e : Event) (ds : List Bool) (answer : Option Cause) (st : Standing) (k : ℕ) → ((after_answer c e ds answer st).past k).opening ≡ (st.past k).opening
opened_still c e ds None st k = refl
opened_still c e ds (Some cause) st k = refl

decisions_more : (c : ℕ) (e : Event) (ds : List Bool) (answer : Option Cause) (st : Standing) (k : ℕ) → ((after_answer c e ds answer st).past k).decisions ≡ (st.past k).decisions ++ more_decided c ds answer k
decisions_more c e ds None st k = elim (eqb_tells k c) [ inl w ↦ rw w.0 refl | inr w ↦ rw w.0 (sym (append-nil (st.past k).decisions)) ]
decisions_more c e ds (Some cause) st k = sym (append-nil (st.past k).decisions)

-- what channel k was asked for, and told
asked_at_more : (settings : ℕ → Setting) (c : ℕ) (e : Event) (ds : List Bool) (answer : Option Cause) (st : Standing) (k : ℕ) (asked : List Event) (told : List Answered)
    → AreAnswered (settings k) asked told (st.past k) → length (st.past k).decisions ≡ length (due (st.past k).opening (st.past k).history)
    → IsAnswer (settings c) (st.past c) e answer
    → AreAnswered (settings k) (asked ++ asked_at k (Ask c e)) (told ++ told_at k (Told c e answer)) ((after_answer c e ds answer st).past k)
asked_at_more settings c e ds None st k asked told are whole is = elim (eqb_tells k c) [
  | inl w ↦
      let own : IsAnswer (settings k) (st.past k) e None = subst (λ j. IsAnswer (settings j) (st.past j) e None) (sym w.1) is in
      let next : Past = record { opening = (st.past k).opening; history = (st.past k).history ++ e ∷ []; decisions = (st.past k).decisions ++ ds } in
      rw w.0 (answered_more (settings k) asked told (st.past k) next e None ds are whole refl refl refl own)
  | inr w ↦ rw w.0 (answered_still (settings k) asked told (st.past k) are)
]
asked_at_more settings c e ds (Some cause) st k asked told are whole is = elim (eqb_tells k c) [
  | inl w ↦
      let own : IsAnswer (settings k) (st.past k) e (Some cause) = subst (λ j. IsAnswer (settings j) (st.past j) e (Some cause)) (sym w.1) is in
      rw w.0 (answered_more (settings k) asked told (st.past k) (st.past k) e (Some cause) [] are whole refl (sym (append-nil (st.past k).history)) (sym (append-nil (st.past k).decisions)) own)
  | inr w ↦ rw w.0 (answered_still (settings k) asked told (st.past k) are)
]

module _ {S E : Type 0} (send : SendGhosts S E) (ring : EndGhosts E) where
  -- what the samplers go by stays
  pub settings_stay : (xs ys : List (SamplerState S)) → StayThose send xs ys → settings_of_samplers send ring ys ≡ settings_of_samplers send ring xs
  settings_stay xs ys stay =
      ap₂ (λ (is cs : List ℕ). λ (c : ℕ). record { image_len = slice_index is c; capacity = slice_index cs c; cost = ring.cost }) stay.image_lens stay.capacities

  -- each channel has a decision for each list that it found due
  pub decided : (e : EngineState S) (st : Standing) → Stands send ring e st → (c : ℕ) → c < length e.samplers → length (st.past c).decisions ≡ length (due (st.past c).opening (st.past c).history)
  decided e st stands c within =
      let one = sampler_at e.samplers c within in
      (stands.samplers c one.0 one.1).decisions

  -- what was sent to a ring is what its channel sent
  pub sent_stands : (e : EngineState S) (st : Standing) → Stands send ring e st → (c : ℕ) → c < length e.samplers → of_ring (sent_of_each send e.samplers) c ≡ sent_in (st.past c)
  sent_stands e st stands c within =
      let one = sampler_at e.samplers c within in
      read_at (λ (s : SamplerState S). send.sent s.end) [] e.samplers c one.0 one.1 ∙ (stands.samplers c one.0 one.1).sent

  module _ (a b : EngineState S) (stay : StayThose send a.samplers b.samplers) where
    -- the same steps of the same samplers
    those : (steps : List RunStep) (past : ℕ → Past) (done : List Done)
        → AreDone (length a.samplers) (settings_of_samplers send ring a.samplers) steps b.transmitter.writer.closed past done
        → AreDone (length b.samplers) (settings_of_samplers send ring b.samplers) steps b.transmitter.writer.closed past done
    those steps past done are =
        subst (λ n. AreDone n (settings_of_samplers send ring b.samplers) steps b.transmitter.writer.closed past done) (sym (as_many_stay send a.samplers b.samplers stay))
        (subst (λ s. AreDone (length a.samplers) s steps b.transmitter.writer.closed past done) (sym (settings_stay a.samplers b.samplers stay)) are)

    module _ (start : WriterState) (openings : ℕ → Opening) (steps : List RunStep) (refused : ℕ) (few : length a.samplers * length steps < MAX_TAKEN) (h : HasDone send ring a start openings steps refused) where
      abbrev st : Standing
      st = record { start = start; past = h.past; taken = taken_in h.done }

      still : (c : ℕ) (e : Event) (ds : List Bool) (answer : Option Cause) → Stands send ring b (after_answer c e ds answer st)
          → Stands send ring b (record { start = start; past = (after_answer c e ds answer st).past; taken = taken_in h.done })
      still c e ds None stands = stands
      still c e ds (Some cause) stands = stands

      -- it was pumped
      pub pump_more : (answer : Result PumpedOk PumpFault) → PumpsOn send ring a b answer → HasDone send ring b start openings (steps ++ Pump ∷ []) (refused + 0)
      pump_more answer p =
          let qs = p.step.pumps.taken in
          let left = p.step.left in
          let before = record (a.transmitter) { known = left } in
          let after = p.stands st h.stands in
          let taken : List (ℕ × Item) = taken_in h.done ++ qs in
          let shut : (s : SampleParts) → p.step.pumped.hand ≡ Some s → p.step.pumped.writer.closed ≡ true = λ s is.
          ap (λ (t : TransmitterState). t.writer.closed) (sym p.step.looks)
          ∙ shut_in_hand start b.transmitter taken after.transmitter s (ap (λ (t : TransmitterState). t.hand) p.step.looks ∙ is) in
          let fits : a.transmitter.taken < MAX_TAKEN = omega (arith, h.stands.transmitter.taken, few_taken _ _ steps _ h.past h.done h.are_done, few) in
          let front = front_of before p.step.pumped qs left answer p.step.pumps.answers p.step.takes_all p.step.takes_front shut fits in
          let same : b.transmitter.writer.closed ≡ p.step.pumped.writer.closed = ap (λ (t : TransmitterState). t.writer.closed) p.step.looks in
          let takes : TakesFront (length a.samplers) (λ c. sent_in (h.past c)) (taken_in h.done) b.transmitter.writer.closed qs = record {
            left = left;
            as_many = p.step.as_many;
            leaves = λ c within. ap (λ xs. xs ++ of_ring left c) (h.stands.transmitter.merge.each c) ∙ (p.step.leaves c within ∙ sent_stands a st h.stands c within);
            front = front.0;
            whole = λ e. (front.1 (sym same ∙ e)).0;
          } in
          let are = done_more (length a.samplers) (settings_of_samplers send ring a.samplers) steps a.transmitter.writer.closed b.transmitter.writer.closed h.past h.past h.done (Pumped qs) (λ c. [])
          h.are_done (decided a st h.stands) (λ c. refl) (λ c. sym (append-nil (h.past c).decisions)) (λ e. (front.1 (sym same ∙ e)).1)
          (λ c within. answered_still (settings_of_samplers send ring a.samplers c) (asked_of c steps) (told_of c h.done) (h.past c) (h.are_done.answered c within))
          (λ ps is. subst (λ zs. TakesFront (length a.samplers) (λ c. sent_in (h.past c)) (taken_in h.done) b.transmitter.writer.closed zs) (ap taken_at is) takes) in
          record {
            past = h.past;
            opened = h.opened;
            done = h.done ++ Pumped qs ∷ [];
            are_done = those (steps ++ Pump ∷ []) h.past (h.done ++ Pumped qs ∷ []) are;
            counted = counted-more h.done (Pumped qs) refused h.counted;
            stands = subst (λ ps. Stands send ring b (record { start = start; past = h.past; taken = ps })) (sym (taken-more h.done (Pumped qs))) after;
          }

      -- one of its channels was asked for something
      pub ask_more : (c : ℕ) (e : Event) (answer : Option Cause) → AnswersAt send ring a b c e answer → b.transmitter ≡ a.transmitter → c < length a.samplers
          → HasDone send ring b start openings (steps ++ Ask c e ∷ []) (refused + cond (is_refused_step (Told c e answer)) 1 0)
      ask_more c e answer answers same within =
          let one = answers st h.stands in
          let ds = one.1.0 in
          let next = (after_answer c e ds answer st).past in
          let x = Told c e answer in
          let closed : b.transmitter.writer.closed ≡ a.transmitter.writer.closed = ap (λ (t : TransmitterState). t.writer.closed) same in
          let are = done_more (length a.samplers) (settings_of_samplers send ring a.samplers) steps a.transmitter.writer.closed b.transmitter.writer.closed h.past next h.done x (more_decided c ds answer)
          h.are_done (decided a st h.stands) (opened_still c e ds answer st) (decisions_more c e ds answer st) (λ f. sym closed ∙ f)
          (λ k inside. asked_at_more (settings_of_samplers send ring a.samplers) c e ds answer st k (asked_of k steps) (told_of k h.done) (h.are_done.answered k inside) (decided a st h.stands k inside) one.0)
          (λ ps is. absurd (no_pump c e answer ps is)) in
          record {
            past = next;
            opened = λ k. opened_still c e ds answer st k ∙ h.opened k;
            done = h.done ++ x ∷ [];
            are_done = those (steps ++ Ask c e ∷ []) next (h.done ++ x ∷ []) are;
            counted = counted-more h.done x refused h.counted;
            stands = subst (λ ps. Stands send ring b (record { start = start; past = next; taken = ps })) (sym (taken-more h.done x ∙ append-nil (taken_in h.done))) (still c e ds answer one.1.1);
          }

-- what is counted of an answer
counted_as : (c : ℕ) (e : Event) (answer : Option Cause) → ◌≡◌ {A = ℕ} (cond (is_refused_step (Told c e answer)) 1 0) (cond (is_some answer) 1 0)
counted_as c e None = refl
counted_as c e (Some cause) = refl

-- a step that asks, with what is counted of its answer
module _ {S E : Type 0} (send : SendGhosts S E) (ring : EndGhosts E) (a b : EngineState S) (c : ℕ) (stays : StaysBut send c a b) where
  pub ask_counted : (e : Event) (answer : Option Cause) (step : RunStep) (n : ℕ)
      → AnswersAt send ring a b c e answer → c < length a.samplers → step ≡ Ask c e → ◌≡◌ {A = ℕ} n (cond (is_some answer) 1 0) → DoesStep send ring a b step n
  ask_counted e answer step n answers within is counts start openings steps refused few h =
      let more = ask_more send ring a b stays.samplers.those start openings steps refused few h c e answer answers stays.transmitter within in
      let same : ◌≡◌ {A = ℕ} (cond (is_refused_step (Told c e answer)) 1 0) n = counted_as c e answer ∙ sym counts in
      subst (λ s. HasDone send ring b start openings (steps ++ s ∷ []) (refused + n)) (sym is) (subst (λ m. HasDone send ring b start openings (steps ++ Ask c e ∷ []) (refused + m)) same more)

-- nothing done yet
module _ {S E : Type 0} (send : SendGhosts S E) (ring : EndGhosts E) where
  pub stay_still : (xs : List (SamplerState S)) → StayThose send xs xs
  stay_still xs = record { channels = refl; rings = refl; image_lens = refl; capacities = refl }

  pub nothing_done : (e : EngineState S) (start : WriterState) (openings : ℕ → Opening) → Stands send ring e (first_standing start openings) → HasDone send ring e start openings [] 0
  nothing_done e start openings stands = record {
    past = λ c. first_past (openings c);
    opened = λ c. refl;
    done = [];
    are_done = record {
      steps_done = refl;
      answered = λ c within. record { asks = refl; history = refl; each = λ i f answer at. absurd cc };
      pumped = λ i qs at. absurd cc;
    };
    counted = refl;
    stands = stands;
  }
