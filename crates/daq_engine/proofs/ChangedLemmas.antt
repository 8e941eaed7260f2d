-- One of the samplers was changed.
use Rattle.std.proofs.Common.{◌≡◌, ◌≢◌, ℕ, zero, suc, ◌+◌, ◌<◌, ◌≤◌, inl, inr, List, [], ◌∷◌, length, set, get_or, Bool, Some, refl, sym, ap, subst, ◌∙◌, arith}
use Rattle.std.specs.Prelude.{Result, Err, OnErr, slice_get}
use Rattle.std.proofs.Math.Seq.{map-set_same}
use Rattle.std.proofs.lemmas.Bool.Decides.{eqb_tells}
use Rattle.std.proofs.lemmas.List.{get_or-map}
use Rattle.std.proofs.lemmas.Option.{same_Some, slice_get_read}
use Rattle.segments.specs.Image.{image_len}
use Rattle.channel_ring.specs.Room.{units}
use Rattle.channel_ring.specs.declared.ends.SendEnd.{Ghosts as SendGhosts}
use Rattle.channel_ring.specs.declared.ends.RingEnd.{Ghosts as EndGhosts}
use Rattle.sampler.specs.History.{Event, Trigger}
use Rattle.sampler.specs.Standing.{DropsOnlyWhenFull, GoesOn, StandsAfter, TakesTrigger}
use Rattle.sampler.specs.State.{SamplerState}
use Rattle.sampler.specs.Items.{marker_of}
use Rattle.sampler.specs.Stays.{HasNoRoomFor, KeepsSetUp, OnlyLooked}
use Rattle.sampler.specs.declared.taken.Taken.{Taken}
use Rattle.sampler.specs.declared.faults.StopFault.{StopFault}
use Rattle.sampler.specs.declared.faults.StopFault.TheVariants.{NoRoom, NotOfChannel, NotRunning}
use Rattle.transmitter.specs.Merge.{of_ring}
use Rattle.transmitter.specs.Written.{TransmitterState}
use Rattle.daq_engine.specs.Asking.{FindsNoRoom, StopLeavesEngine, image_len_at}
use Rattle.sampler.specs.Past.{Past, one_more}
use Rattle.daq_engine.specs.Events.{TriggersAt, decisions_at, past_with}
use Rattle.daq_engine.specs.Samplers.{FreesAt, IsRoomyAt, OnlyAt, sent_of_each}
use Rattle.daq_engine.specs.Standings.{StandInOrder}
use Rattle.daq_engine.specs.declared.channel_fault.ChannelFault.TheVariants.{Refused}

-- whatever the samplers stood after, they stand after what `next` makes of that
abbrev pub LeadInOrder : {S E : Type 0} → SendGhosts S E → EndGhosts E → List (SamplerState S) → List (SamplerState S) → ((ℕ → Past) → ℕ → Past) → Type 0
LeadInOrder send ring before after next =
    (past : ℕ → Past) → StandInOrder send ring before past → StandInOrder send ring after (next past)

module _ {X : Type 0} where
  slice_get-set_same : (xs : List X) (i : ℕ) (w : X) → i < length xs → slice_get (set xs i w) i ≡ Some w
  slice_get-set_same [] i w h = absurd (omega (arith, h))
  slice_get-set_same (x ∷ xs) zero w h = refl
  slice_get-set_same (x ∷ xs) (suc i) w h = slice_get-set_same xs i w (omega (arith, h))

  pub slice_get-set_other : (xs : List X) (i j : ℕ) (w : X) → j ≢ i → slice_get (set xs i w) j ≡ slice_get xs j
  slice_get-set_other [] i j w h = refl
  slice_get-set_other (x ∷ xs) zero zero w h = absurd (h refl)
  slice_get-set_other (x ∷ xs) zero (suc j) w h = refl
  slice_get-set_other (x ∷ xs) (suc i) zero w h = refl
  slice_get-set_other (x ∷ xs) (suc i) (suc j) w h = slice_get-set_other xs i j w (λ e. h (ap suc e))

  -- an element that is written back changes nothing
  pub set_back : (xs : List X) (i : ℕ) (w : X) → w ≡ get_or xs i w → set xs i w ≡ xs
  set_back [] i w is = refl
  set_back (x ∷ xs) zero w is = ap (λ y. y ∷ xs) is
  set_back (x ∷ xs) (suc i) w is = ap (λ ys. x ∷ ys) (set_back xs i w is)

-- the parts of a past are that past
again : {S E : Type 0} {send : SendGhosts S E} {ring : EndGhosts E} {s : SamplerState S} {past : Past} → StandsAfter send ring s past
    → StandsAfter send ring s (record { opening = past.opening; history = past.history; decisions = past.decisions })
unfolding DropsOnlyWhenFull
again stands = record {
  channel = stands.channel;
  plans = stands.plans;
  decisions = stands.decisions;
  sent = stands.sent;
  tracks = stands.tracks;
  triggers = stands.triggers;
  accepted = stands.accepted;
  drops = stands.drops;
}

module _ {S E : Type 0} (send : SendGhosts S E) (xs : List (SamplerState S)) (c : ℕ) (old new : SamplerState S) (is : old ≡ get_or xs c old) (h : c < length xs) where
  pub was : slice_get xs c ≡ Some old
  was = slice_get_read xs (length xs) c old refl h is

  pub is_now : slice_get (set xs c new) c ≡ Some new
  is_now = slice_get-set_same xs c new h

  -- all are still those of their channels and rings, and each other is as it was
  pub only_at : KeepsSetUp send old new → OnlyAt send c xs (set xs c new)
  only_at keeps = record {
    those = record {
      channels = map-set_same (λ (s : SamplerState S). s.channel) xs c new old (keeps.channel ∙ ap (λ (s : SamplerState S). s.channel) is);
      rings = map-set_same (λ (s : SamplerState S). send.ring s.end) xs c new old (keeps.ring ∙ ap (λ (s : SamplerState S). send.ring s.end) is);
      image_lens = map-set_same (λ (s : SamplerState S). image_len s.segments) xs c new old (ap image_len keeps.segments ∙ ap (λ (s : SamplerState S). image_len s.segments) is);
      capacities = map-set_same (λ (s : SamplerState S). send.capacity s.end) xs c new old (keeps.capacity ∙ ap (λ (s : SamplerState S). send.capacity s.end) is);
    };
    others = λ e other. slice_get-set_other xs c e new other;
  }

  pub sent-set : send.sent new.end ≡ send.sent old.end → sent_of_each send (set xs c new) ≡ sent_of_each send xs
  sent-set sent = map-set_same (λ (s : SamplerState S). send.sent s.end) xs c new old (sent ∙ ap (λ (s : SamplerState S). send.sent s.end) is)

  pub frees_at : new ≡ record old { end = new.end } → send.sent new.end ≡ send.sent old.end → send.free old.end ≤ send.free new.end → FreesAt send c xs (set xs c new)
  frees_at rest sent grows = record { old = old; new = new; was = was; is = is_now; rest = rest; sent = sent; grows = grows }

  pub roomy-set : (ring : EndGhosts E) (t : TransmitterState) → send.capacity new.end ≤ send.free new.end + units ring.cost (of_ring t.known c) → IsRoomyAt send ring (set xs c new) t c
  roomy-set ring t roomy s at =
      let same : new ≡ s = same_Some new s (sym is_now ∙ at) in
      subst (λ (x : SamplerState S). send.capacity x.end ≤ send.free x.end + units ring.cost (of_ring t.known c)) same roomy

  module _ (ring : EndGhosts E) (past : ℕ → Past) (before : StandInOrder send ring xs past) where
    pub stood : StandsAfter send ring old (past c)
    stood = before c old was

    -- where it stands after one event more, all of them stand in order
    pub stand-set : (e : Event) (ds : List Bool) → StandsAfter send ring new (one_more (past c) e ds)
        → StandInOrder send ring (set xs c new) (past_with c e ds past)
    stand-set e ds stands k s at = elim (eqb_tells k c) [
      | inl w ↦
          let here = subst (λ j. slice_get (set xs c new) j ≡ Some s) w.1 at in
          let same : new ≡ s = same_Some new s (sym is_now ∙ here) in
          let now = subst (λ x. StandsAfter send ring x (one_more (past c) e ds)) same stands in
          rw w.0 (subst (λ j. StandsAfter send ring s (one_more (past j) e ds)) (sym w.1) now)
      | inr w ↦ rw w.0 (again (before k s (sym (slice_get-set_other xs c k new w.1) ∙ at)))
    ]

    -- and so they do where it stands after what it stood after
    pub stand-kept : StandsAfter send ring new (past c) → StandInOrder send ring (set xs c new) past
    stand-kept stands k s at = elim (eqb_tells k c) [
      | inl w ↦
          let here = subst (λ j. slice_get (set xs c new) j ≡ Some s) w.1 at in
          let same : new ≡ s = same_Some new s (sym is_now ∙ here) in
          let now = subst (λ x. StandsAfter send ring x (past c)) same stands in
          subst (λ j. StandsAfter send ring s (past j)) (sym w.1) now
      | inr w ↦ before k s (sym (slice_get-set_other xs c k new w.1) ∙ at)
    ]

  -- a start or a stop that was accepted
  pub event_at : (ring : EndGhosts E) (e : Event)
      → GoesOn send ring old new e
      → LeadInOrder send ring xs (set xs c new) (past_with c e [])
  event_at ring e leads past before =
      stand-set ring past before e [] (leads (past c) (stood ring past before))

  -- and what leaves it standing as it stood
  pub kept_at : (ring : EndGhosts E)
      → ((past : Past) → StandsAfter send ring old past → StandsAfter send ring new past)
      → LeadInOrder send ring xs (set xs c new) (λ past. past)
  kept_at ring keeps past before =
      stand-kept ring past before (keeps (past c) (stood ring past before))

  -- a stop that was refused leaves the engine, or, without room, all but what is known to be free to this one
  pub stop_leaves : (ring : EndGhosts E) (t : TransmitterState) (r : Result (Unit {0}) StopFault) (fault : StopFault) → r ≡ Err fault
      → (r ≡ Err NotOfChannel → new ≡ old) → (r ≡ Err NotRunning → new ≡ old) → OnErr r (OnlyLooked send ring old new)
      → StopLeavesEngine send c (record { samplers = xs; transmitter = t }) (record { samplers = set xs c new; transmitter = t }) (Refused fault)
  stop_leaves ring t r NotOfChannel is_refused of running looked = ap (λ ss. record { samplers = ss; transmitter = t }) (ap (set xs c) (of is_refused) ∙ set_back xs c old is)
  stop_leaves ring t r NotRunning is_refused of running looked = ap (λ ss. record { samplers = ss; transmitter = t }) (ap (set xs c) (running is_refused) ∙ set_back xs c old is)
  stop_leaves ring t r NoRoom is_refused of running looked =
      let look = subst (λ o. OnErr o (OnlyLooked send ring old new)) is_refused looked in
      frees_at look.rest look.sent look.free

  -- or for want of room in its ring
  pub no_room_at : (ring : EndGhosts E) (l : ℕ) → HasNoRoomFor send ring old.end (marker_of old.channel l) → FindsNoRoom send ring xs c l
  no_room_at ring l none s at =
      let same : old ≡ s = same_Some old s (sym was ∙ at) in
      subst (λ z. HasNoRoomFor send ring z.end (marker_of z.channel l)) same none

  -- the images that it takes have the length that those of its channel have
  pub image_len_is : image_len old.segments ≡ image_len_at xs c
  image_len_is = ap (λ (s : SamplerState S). image_len s.segments) is ∙ sym (get_or-map (λ (s : SamplerState S). image_len s.segments) xs c old 0 h)

  -- a trigger that was taken
  pub triggers_at : (ring : EndGhosts E) (taken : Taken) (image : List ℕ) (stamp : ℕ)
      → ((p : Past) → StandsAfter send ring old p → TakesTrigger send ring old new taken p image stamp)
      → (past : ℕ → Past) → StandInOrder send ring xs past → TriggersAt send ring xs (set xs c new) c taken past image stamp
  triggers_at ring taken image stamp takes past before =
      let now = takes (past c) (stood ring past before) in
      record {
        old = old;
        new = new;
        was = was;
        is = is_now;
        takes = now;
        stand = stand-set ring past before (Trigger image stamp) (decisions_at past c taken image stamp) now.stands;
      }
