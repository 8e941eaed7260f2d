-- What one of the channels of an engine was asked for.
use Rattle.std.proofs.Common.{◌≡◌, ◌⊎◌, ℕ, zero, suc, ◌<◌, inl, inr, List, [], ◌∷◌, length, map, refl, sym, ap, subst, ◌∙◌, arith}
use Rattle.std.specs.Prelude.{Option, Some, None, Ok, Err, slice_get, slice_index_or}
use Rattle.std.specs.Option.{option_map}
use Rattle.std.proofs.lemmas.Option.{same_Some}
use Rattle.channel_ring.specs.declared.ends.SendEnd.{Ghosts as SendGhosts}
use Rattle.channel_ring.specs.declared.ends.RingEnd.{Ghosts as EndGhosts}
use Rattle.sampler.specs.History.{Start, Stop, Trigger}
use Rattle.sampler.specs.Items.{items, marker_of}
use Rattle.sampler.specs.Refusals.{AnswersStop, running_at, start_refusal, stop_refusal, trigger_refusal}
use Rattle.sampler.specs.Standing.{ExceedsCapacity}
use Rattle.sampler.specs.State.{SamplerState}
use Rattle.sampler.specs.declared.faults.StartFault.{StartFault}
use Rattle.sampler.specs.declared.faults.StopFault.{StopFault}
use Rattle.sampler.specs.declared.faults.TriggerFault.{TriggerFault}
use Rattle.sampler.specs.declared.taken.Taken.{Taken}
use Rattle.sampler.specs.declared.faults.StopFault.TheVariants.{NoRoom}
use Rattle.daq_engine.specs.Asking.{AsksStart, AsksStop, AsksTrigger, FindsNoRoom, image_len_at, refusal_in}
use Rattle.daq_engine.specs.Events.{decisions_at}
use Rattle.daq_engine.specs.declared.channel_fault.ChannelFault.{ChannelFault}
use Rattle.daq_engine.specs.declared.channel_fault.ChannelFault.TheVariants.{Refused}
use Rattle.daq_engine.specs.Engines.{EngineState, Standing, Stands}
use Rattle.daq_run.specs.declared.cause.Cause.TheVariants.{Start as OfStart, Stop as OfStop, Trigger as OfTrigger}
use Rattle.daq_run.specs.Answers.{ExceedsRoom}
use Rattle.daq_run.specs.StepRuns.{AnswersAt, settings_of_samplers}

-- a stop that was accepted wasn't to be refused
stop_accepted : (r : Option StopFault) → AnswersStop r None → r ≡ None
stop_accepted None h = refl
stop_accepted (Some fault) h = sym h

-- one that was refused was to be refused for that, or finds no room
refused_for : (r : Option StopFault) (fault : StopFault) (Room : Type 0) → AnswersStop r (Some fault) → (fault ≡ NoRoom → Room)
    → (option_map OfStop r ≡ Some (OfStop fault)) ⊎ ((option_map OfStop r ≡ None) × (OfStop fault ≡ OfStop NoRoom) × Room)
refused_for (Some other) fault Room h room = inl (ap (option_map OfStop) (sym h))
refused_for None fault Room (inl h) room = absurd cc
refused_for None fault Room (inr h) room =
    let is : fault ≡ NoRoom = same_Some fault NoRoom h in
    inr (refl, ap OfStop is, room is)

-- the sampler of a channel that is there
pub sampler_at : {X : Type 0} (xs : List X) (k : ℕ) → k < length xs → (x : X) × (slice_get xs k ≡ Some x)
sampler_at [] k h = absurd (omega (arith, h))
sampler_at (x ∷ xs) zero h = (x, refl)
sampler_at (x ∷ xs) (suc k) h = sampler_at xs k (omega (arith, h))

-- what is read of it stands at its place
pub read_at : {X Y : Type 0} (f : X → Y) (d : Y) (xs : List X) (k : ℕ) (x : X) → slice_get xs k ≡ Some x → slice_index_or (map f xs) k d ≡ f x
read_at f d [] k x at = absurd cc
read_at f d (y ∷ xs) zero x at = ap f (same_Some y x at)
read_at f d (y ∷ xs) (suc k) x at = read_at f d xs k x at

module _ {S E : Type 0} (send : SendGhosts S E) (ring : EndGhosts E) (a : EngineState S) (st : Standing) (c l : ℕ) where
  -- a marker that found no room at its ring finds none by what its channel had behind it
  finds_no_room : Stands send ring a st → c < length a.samplers → FindsNoRoom send ring a.samplers c l
      → ExceedsRoom (settings_of_samplers send ring a.samplers c) (st.past c) (Stop l)
  finds_no_room stands within full =
      let one = sampler_at a.samplers c within in
      let s = one.0 in
      let then = stands.samplers c s one.1 in
      let exceeds = (full s one.1).over_capacity in
      let of_history = subst (λ xs. ExceedsCapacity (send.capacity s.end) ring.cost xs (marker_of s.channel l)) then.sent exceeds in
      let of_channel = subst (λ k. ExceedsCapacity (send.capacity s.end) ring.cost (items (st.past c).opening (st.past c).history (st.past c).decisions) (marker_of k l)) then.channel of_history in
      subst (λ n. ExceedsCapacity n ring.cost (items (st.past c).opening (st.past c).history (st.past c).decisions) (marker_of (st.past c).opening.channel l)) (sym (read_at (λ (x : SamplerState S). send.capacity x.end) 0 a.samplers c s one.1)) of_channel

-- the cause of a refusal is what the sampler answered
told_why : (A : Type 0) {F : Type 0} (r : Option F) (f : ChannelFault F) (fault : F) → f ≡ Refused fault → refusal_in {A = A} (Err f) ≡ r → r ≡ Some fault
told_why A r f fault is e = sym e ∙ ap (λ x. refusal_in {A = A} (Err x)) is

told_stop : (A : Type 0) (r : Option StopFault) (f : ChannelFault StopFault) (fault : StopFault) → f ≡ Refused fault → AnswersStop r (refusal_in {A = A} (Err f)) → AnswersStop r (Some fault)
told_stop A r f fault is e = subst (λ x. AnswersStop r (refusal_in {A = A} (Err x))) is e

module _ {S E : Type 0} (send : SendGhosts S E) (ring : EndGhosts E) (a b : EngineState S) (c : ℕ) (within : c < length a.samplers) where
  -- a trigger was taken: nothing spoke against it
  pub trigger_taken : (image : List ℕ) (stamp : ℕ) (taken : Taken) → AsksTrigger send ring a b c image stamp (Ok taken) → AnswersAt send ring a b c (Trigger image stamp) None
  trigger_taken image stamp taken asks st stands =
      let r = trigger_refusal (image_len_at a.samplers c) (st.past c) image in
      let none : r ≡ None = sym (asks.refused st stands within) in
      (ap (option_map OfTrigger) {x = r} none, (decisions_at st.past c taken image stamp, (asks.ok st stands).stands))

  -- or it was refused for its cause
  pub trigger_refused : (image : List ℕ) (stamp : ℕ) (f : ChannelFault TriggerFault) (fault : TriggerFault) → f ≡ Refused fault → AsksTrigger send ring a b c image stamp (Err f)
      → AnswersAt send ring a b c (Trigger image stamp) (Some (OfTrigger fault))
  trigger_refused image stamp f fault is asks st stands =
      let r = trigger_refusal (image_len_at a.samplers c) (st.past c) image in
      let why : r ≡ Some fault = told_why Taken r f fault is (asks.refused st stands within) in
      (inl (ap (option_map OfTrigger) {x = r} why), ([], subst (λ e. Stands send ring e st) (sym asks.err) stands))

  -- a list was started
  pub start_done : (l : ℕ) (done : Unit {0}) → AsksStart send ring a b c l (Ok done) → AnswersAt send ring a b c (Start l) None
  start_done l done asks st stands =
      let r = start_refusal (running_at (st.past c) l) in
      let none : r ≡ None = sym (asks.refused st stands within) in
      (ap (option_map OfStart) {x = r} none, ([], asks.ok st stands))

  pub start_refused : (l : ℕ) (f : ChannelFault StartFault) (fault : StartFault) → f ≡ Refused fault → AsksStart send ring a b c l (Err f)
      → AnswersAt send ring a b c (Start l) (Some (OfStart fault))
  start_refused l f fault is asks st stands =
      let r = start_refusal (running_at (st.past c) l) in
      let why : r ≡ Some fault = told_why (Unit {0}) r f fault is (asks.refused st stands within) in
      (inl (ap (option_map OfStart) {x = r} why), ([], subst (λ e. Stands send ring e st) (sym asks.err) stands))

  -- a list was stopped
  pub stop_done : (l : ℕ) (done : Unit {0}) → AsksStop send ring a b c l (Ok done) → AnswersAt send ring a b c (Stop l) None
  stop_done l done asks st stands =
      let r = stop_refusal (running_at (st.past c) l) in
      let none : r ≡ None = stop_accepted r (asks.refused st stands within) in
      (ap (option_map OfStop) {x = r} none, ([], asks.ok st stands))

  -- or its stop was refused for its cause, or its marker found no room
  pub stop_refused : (l : ℕ) (f : ChannelFault StopFault) (fault : StopFault) → f ≡ Refused fault → AsksStop send ring a b c l (Err f)
      → AnswersAt send ring a b c (Stop l) (Some (OfStop fault))
  stop_refused l f fault is asks st stands =
      let s = settings_of_samplers send ring a.samplers c in
      let past = st.past c in
      let room : fault ≡ NoRoom → ExceedsRoom s past (Stop l) = λ h. finds_no_room send ring a st c l stands within (asks.no_room (ap Err (is ∙ ap Refused h))) in
      let r = stop_refusal (running_at past l) in
      (refused_for r fault (ExceedsRoom s past (Stop l)) (told_stop (Unit {0}) r f fault is (asks.refused st stands within)) room, ([], asks.err_stands st stands))
