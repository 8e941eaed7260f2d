-- Samplers beside a transmitter: looks at what was sent, and what a pump takes between two looks.
use Rattle.std.proofs.Common.{◌≡◌, ◌≢◌, ℕ, ◌+◌, ◌<◌, List, [], ◌++◌, length, get_or, refl, sym, ap, subst, ◌∙◌, arith, below_more}
use Rattle.std.specs.Prelude.{Some, Result, slice_get}
use Rattle.std.specs.Option.{option_map}
use Rattle.std.proofs.lemmas.List.{get_or-map, length-map}
use Rattle.std.proofs.lemmas.Option.{slice_get-map, slice_get_read}
use Rattle.xcp_base.specs.declared.item.Item.{Item}
use Rattle.channel_ring.specs.declared.ends.SendEnd.{Ghosts as SendGhosts}
use Rattle.channel_ring.specs.declared.ends.RingEnd.{Ghosts as EndGhosts}
use Rattle.sampler.specs.State.{SamplerState}
use Rattle.transmitter.specs.Merge.{of_ring}
use Rattle.transmitter.specs.Looks.{Looked, LookedAt}
use Rattle.transmitter.specs.Pumps.{IsPump, PumpAnswers}
use Rattle.frame_writer.specs.Writing.{WriterState}
use Rattle.transmitter.specs.Written.{HasTaken, TransmitterState}
use Rattle.transmitter.specs.declared.pumped.Pumped.{Pumped}
use Rattle.transmitter.specs.declared.faults.PumpFault.{PumpFault}
use Rattle.transmitter.proofs.DrainLemmas.{LookedAtAll, known_taken, takes_front, takes_round, with_known}
use Rattle.daq_engine.specs.Configuration.{upto}
use Rattle.daq_engine.specs.PumpSteps.{IsPumpStep}
use Rattle.daq_engine.specs.Samplers.{AllOnlyLooked, AreBeside, IsRoomyAt, StayThose, sent_of_each}
use Rattle.daq_engine.proofs.EndLemmas.{get_or-upto}

module _ {S E : Type 0} (send : SendGhosts S E) where
  pub stay_on : (xs ys zs : List (SamplerState S)) → StayThose send xs ys → StayThose send ys zs → StayThose send xs zs
  stay_on xs ys zs a b = record {
    channels = b.channels ∙ a.channels;
    rings = b.rings ∙ a.rings;
    image_lens = b.image_lens ∙ a.image_lens;
    capacities = b.capacities ∙ a.capacities;
  }

  pub as_many_stay : (xs ys : List (SamplerState S)) → StayThose send xs ys → length ys ≡ length xs
  as_many_stay xs ys a =
      let f = λ (s : SamplerState S). s.channel in
      sym (length-map ys f) ∙ (ap length a.channels ∙ length-map xs f)

  -- they are still beside a transmitter of the same rings
  pub stay_beside : (xs ys : List (SamplerState S)) (t u : TransmitterState) → AreBeside send xs t → StayThose send xs ys → u.rings ≡ t.rings → AreBeside send ys u
  stay_beside xs ys t u b a same = record {
    channels = a.channels ∙ (b.channels ∙ ap (upto 0) (sym (as_many_stay xs ys a)));
    rings = same ∙ (b.rings ∙ sym a.rings);
  }

  module _ (xs : List (SamplerState S)) (c : ℕ) (old : SamplerState S) (is : old ≡ get_or xs c old) (h : c < length xs) where
    -- the sampler at place c is that of channel c, and of ring c
    pub channel_at : (t : TransmitterState) → AreBeside send xs t → old.channel ≡ c
    channel_at t b =
        let f = λ (s : SamplerState S). s.channel in
        let at : get_or (upto 0 (length xs)) c 0 ≡ c = omega (arith, get_or-upto 0 (length xs) c h) in
        ap f is ∙ sym (get_or-map f xs c old 0 h) ∙ ap (λ ys. get_or ys c 0) b.channels ∙ at

    pub ring_at : (t : TransmitterState) → AreBeside send xs t → slice_get t.rings old.channel ≡ Some (send.ring old.end)
    ring_at t b =
        let f = λ (s : SamplerState S). send.ring s.end in
        ap (slice_get t.rings) (channel_at t b) ∙ ap (λ ys. slice_get ys c) b.rings ∙ slice_get-map f xs c ∙ ap (option_map f) (slice_get_read xs (length xs) c old refl h is)

    pub sent_at : of_ring (sent_of_each send xs) c ≡ send.sent old.end
    sent_at = get_or-map (λ (s : SamplerState S). send.sent s.end) xs c old [] h ∙ ap (λ (s : SamplerState S). send.sent s.end) (sym is)

-- samplers that only look, twice
pub all_looked-more : {S E : Type 0} {send : SendGhosts S E} {ring : EndGhosts E} {xs ys zs : List (SamplerState S)} → AllOnlyLooked send ring xs ys → AllOnlyLooked send ring ys zs → AllOnlyLooked send ring xs zs
all_looked-more {S} {E} {send} {ring} {xs} {ys} {zs} a b = record {
  those = stay_on send xs ys zs a.those b.those;
  sent = b.sent ∙ a.sent;
  stand = λ past stand. b.stand past (a.stand past stand);
}

-- a look at one ring leaves what is known of another
pub looked_elsewhere : (c k : ℕ) (a b : TransmitterState) → LookedAt c a b → k ≢ c → of_ring b.received k ++ of_ring b.known k ≡ of_ring a.received k ++ of_ring a.known k
looked_elsewhere c k a b look other = rw (ap (λ (u : TransmitterState). u.received) look.same, look.others k other) refl

-- one look more
pub looks_again : (t a b : TransmitterState) → Looked t a → Looked a b → Looked t b
looks_again t a b first second = second ∙ ap (λ (u : TransmitterState). record u { known = b.known }) first

-- the rings below n were looked at: samplers xs became ys, and transmitter t became u
pub record LookedBelow {S E : Type 0} (send : SendGhosts S E) (ring : EndGhosts E) (n : ℕ) (xs ys : List (SamplerState S)) (t u : TransmitterState) : Type 0 where
  pub samplers : AllOnlyLooked send ring xs ys
  pub looked : Looked t u
  pub left : (e : ℕ) → e < n → of_ring u.received e ++ of_ring u.known e ≡ of_ring (sent_of_each send xs) e
  pub roomy : (e : ℕ) → e < n → IsRoomyAt send ring ys u e

-- no ring was looked at yet
pub looked_below-none : {S E : Type 0} (send : SendGhosts S E) (ring : EndGhosts E) (xs : List (SamplerState S)) (t : TransmitterState) → LookedBelow send ring 0 xs xs t t
looked_below-none send ring xs t = record {
  samplers = record {
    those = record { channels = refl; rings = refl; image_lens = refl; capacities = refl };
    sent = refl;
    stand = λ past stand. stand;
  };
  looked = refl;
  left = λ e h. absurd (omega (arith, h));
  roomy = λ e h. absurd (omega (arith, h));
}

-- one ring more
pub looked_below-more : {S E : Type 0} (send : SendGhosts S E) (ring : EndGhosts E) (n : ℕ) (xs ys zs : List (SamplerState S)) (t u v : TransmitterState) → LookedBelow send ring n xs ys t u
    → AllOnlyLooked send ring ys zs → ((e : ℕ) → e ≢ n → slice_get zs e ≡ slice_get ys e) → LookedAt n u v
    → of_ring v.received n ++ of_ring v.known n ≡ of_ring (sent_of_each send ys) n → IsRoomyAt send ring zs v n
    → LookedBelow send ring (n + 1) xs zs t v
looked_below-more send ring n xs ys zs t u v i samplers others looked left roomy = record {
  samplers = all_looked-more i.samplers samplers;
  looked = looks_again t u v i.looked looked.same;
  left = below_more _ _ (λ k h. looked_elsewhere n k u v looked (omega (arith, h)) ∙ i.left k h) (left ∙ ap (λ ss. of_ring ss n) i.samplers.sent);
  roomy = below_more _ _ (λ k h. rw (others k (omega (arith, h)), looked.others k (omega (arith, h))) (i.roomy k h)) roomy;
}

-- a pump between two looks, where this was left before it
between : (sent : List (List Item)) (n : ℕ) (a : TransmitterState) (left : List (List Item)) (p d : TransmitterState) (answer : Result Pumped PumpFault)
    → ((c : ℕ) → of_ring a.received c ++ of_ring left c ≡ of_ring sent c) → length left ≡ n → IsPump (record a { known = left }) p answer → LookedAtAll sent p d → IsPumpStep n (of_ring sent) a d answer
between sent n a left p d answer first many pump second =
    let b = record a { known = left } in
    let at = known_taken sent b p d pump.taken first pump.leads second in
    record {
      left = left;
      as_many = many;
      leaves = λ c h. first c;
      pumped = p;
      pumps = pump;
      takes_all = λ o e. takes_round b p d pump.taken o pump.rising at (subst (PumpAnswers b p pump.taken) e pump.answers);
      takes_front = λ e. takes_front b p d pump.taken pump.rising at (subst (PumpAnswers b p pump.taken) e pump.answers);
      looks = second.same;
      rest = λ c h. second.rest c;
    }

-- a look, a pump and a look
pub pump_between : (sent : List (List Item)) (n : ℕ) (a b p d : TransmitterState) (answer : Result Pumped PumpFault)
    → LookedAtAll sent a b → length b.known ≡ n → IsPump b p answer → LookedAtAll sent p d → IsPumpStep n (of_ring sent) a d answer
pump_between sent n a b p d answer first many pump second =
    between sent n a b.known p d answer (λ c. ap (λ (t : TransmitterState). of_ring t.received c ++ of_ring b.known c) (sym first.same) ∙ first.rest c) many (subst (λ t. IsPump t p answer) first.same pump) second

-- a pump step takes its items behind those that were taken
pub pumped_on : (n : ℕ) (sent : ℕ → List Item) (a b : TransmitterState) (answer : Result Pumped PumpFault) (step : IsPumpStep n sent a b answer)
    → (start : WriterState) (ps : List (ℕ × Item)) → HasTaken start a ps → HasTaken start b (ps ++ step.pumps.taken)
pumped_on n sent a b answer step start ps taken =
    let looked = with_known start a step.left ps taken in
    let pumped = step.pumps.leads.stands start ps looked in
    subst (λ t. HasTaken start t (ps ++ step.pumps.taken)) (sym step.looks) (with_known start step.pumped b.known (ps ++ step.pumps.taken) pumped)
