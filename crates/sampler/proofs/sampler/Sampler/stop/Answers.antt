use Rattle.std.proofs.Common.{◌≡◌, Bool, inl, inr, ◌∷◌, [], ◌++◌, get_or, refl, sym, ap, ◌∙◌, subst, arith, true, false, not}
use Rattle.std.specs.Prelude.{◌⊎◌, None, Some, Result, Err, length, slice_get, take}
use Rattle.std.specs.Option.{option_and_then}
use Rattle.std.proofs.lemmas.Bool.{false≢true}
use Rattle.xcp_base.specs.declared.item.Item.TheVariants.{Marker}
use Rattle.sampler.specs.State.{SamplerState, place_of, track_at, track_is_stopped, stopped_in}
use Rattle.channel_ring.specs.Making.{SampleLimit}
use Rattle.sampler.specs.Inner.Fits.{IsSampler}
use Rattle.sampler.specs.Past.{Past}
use Rattle.sampler.specs.Refusals.{AnswersStop, running_at, stop_refusal}
use Rattle.sampler.specs.Standing.{StandsAfter}
use Rattle.sampler.specs.declared.faults.StopFault.{StopFault}
use Rattle.sampler.specs.declared.faults.StopFault.TheVariants.{NoRoom, NotOfChannel, NotRunning}
use Rattle.sampler.proofs.Orders.{stop-inside}
use Rattle.sampler.proofs.Outcomes.{looked-end, looked-unchanged, not_missing, not_refused}
use Rattle.sampler.proofs.Places.{track-found, list-below, no_track, IsSampler-set}
use Rattle.sampler.proofs.Readers.{running_found}
use Rattle.sampler.proofs.sampler.Sampler.stop.Given.{Over}
use Rattle.sampler.proofs.sampler.Sampler.stop.Goals as goal
use Rattle.sampler.proofs.sampler.Sampler.stop.Goals.{In-Some}

at_place : (g : Over) (c : In-Some g) → place_of c.args.l c.self.inside.lists.plans.items ≡ Some c.in-Some.place
at_place g c = sym c.place_of.ensures ∙ c.in-Some.is

found : (g : Over) (c : In-Some g) → track_at c.args.self.now c.args.l ≡ Some (get_or c.self.inside.lists.tracks c.in-Some.place no_track)
found g c = ap (λ s. track_at s c.args.l) (sym c.self.view_is) ∙ track-found c.args.l c.self.inside.lists.plans.items c.self.inside.lists.tracks c.in-Some.place (at_place g c) (omega (arith, c.self.invariant.room, c.self.invariant.places))

-- a list that runs is not stopped
still_runs : (g : Over) (c : In-Some g) → (get_or c.self.inside.lists.tracks c.in-Some.place no_track).running ≡ true → stopped_in c.args.self.now c.args.l ≡ true → ⊥
still_runs g c runs e =
    let w : not (get_or c.self.inside.lists.tracks c.in-Some.place no_track).running ≡ true = sym (ap track_is_stopped (found g c)) ∙ e in
    false≢true (sym (ap not runs) ∙ w)

-- why a stop of it is refused
refusal_found : (g : Over) (c : In-Some g) (past : Past) → StandsAfter g.S.SendEnd g.S.End.RingEnd c.args.self.now past
    → (b : Bool) → (get_or c.self.inside.lists.tracks c.in-Some.place no_track).running ≡ b → stop_refusal (Some b) ≡ stop_refusal (running_at past c.args.l)
refusal_found g c past stands b is =
    sym (ap stop_refusal (running_found g.S.SendEnd g.S.End.RingEnd c.args.self.now past c.args.l stands (Some (get_or c.self.inside.lists.tracks c.in-Some.place no_track)) (found g c)) ∙ ap (λ r. stop_refusal (Some r)) is)

pub new-requires-clause-list_below : goal.new-requires-clause-list_below
new-requires-clause-list_below g c =
    list-below c.self.inside.channel c.self.inside.segments.items c.args.l c.self.inside.lists.plans.items c.in-Some.place c.self.invariant.plans_of (at_place g (goal.at.new-requires-clause-list_below g c).In-Some)

pub returns-clause-not_of_channel : goal.returns-clause-not_of_channel
returns-clause-not_of_channel g c =
    let f = found g (goal.at.returns-clause-not_of_channel g c).In-Some in
    ((λ e. absurd (not_refused _ _ e)), (λ e. absurd (not_missing _ _ f e)))

pub returns-clause-not_running : goal.returns-clause-not_running
returns-clause-not_running g c =
    ((λ e. absurd (not_refused _ _ e)), (λ e. absurd (still_runs g (goal.at.returns-clause-not_running g c).In-Some c.if-not-self-place.false e)))

pub returns-clause-ok : goal.returns-clause-ok
returns-clause-ok g c = λ past stands.
    let E = g.S.SendEnd in
    let R = g.S.End.RingEnd in
    let P : SamplerState g.row.S.Denot → Type 0 = λ s. StandsAfter E R s past in
    let w : In-Some g = (goal.at.returns-clause-ok g c).In-Some in
    stop-inside E R c.self.inside.channel c.self.inside.segments.items c.self.inside.lists.plans.items c.self.inside.end c.offer_marker.new.self c.self.inside.lists.tracks c.stopped.result c.self.inside.triggers c.self.inside.accepted c.args.l c.in-Some.place c.self.invariant.rising (at_place g w) past c.stopped.ensures (c.offer_marker.ensures.sends c.if-not-offer_marker.false ∙ ap (λ m. E.sent c.self.inside.end ++ Marker m ∷ []) (rw c.byte.ensures.value at c.new.ensures)) c.offer_marker.ensures.capacity_stays (subst P (sym c.self.view_is) stands)

-- where the marker finds no room, nothing but the end changed, and its limit stays
pub invariant_of-self : goal.invariant_of-self
invariant_of-self g c =
    let Keeps : SampleLimit → Type 0 = IsSampler c.self.inside.channel c.self.inside.image_len c.self.inside.segments.items c.self.inside.lists.plans.items c.self.inside.lists.tracks c.self.inside.triggers c.self.inside.soonest c.self.inside.accepted in
    subst Keeps (sym c.offer_marker.ensures.limit_stays) c.self.invariant

pub invariant_of-self-2 : goal.invariant_of-self-2
invariant_of-self-2 g c =
    IsSampler-set c.self.inside.channel c.self.inside.image_len c.self.inside.segments.items c.self.inside.lists.plans.items c.self.inside.lists.tracks c.self.inside.triggers c.self.inside.soonest c.self.inside.accepted c.in-Some.place c.stopped.result c.soonest-self-inside.result (g.S.SendEnd.limit c.self.inside.end) (g.S.SendEnd.limit c.offer_marker.new.self) c.self.invariant c.offer_marker.ensures.limit_stays (rw c.stopped.ensures refl) c.soonest-self-inside.ensures

pub returns-in_default-clause-err : goal.returns-in_default-clause-err
returns-in_default-clause-err g c = looked-unchanged g.S.SendEnd g.S.End.RingEnd c.args.self.now

pub returns-then-not-self-place-clause-err : goal.returns-then-not-self-place-clause-err
returns-then-not-self-place-clause-err g c = looked-unchanged g.S.SendEnd g.S.End.RingEnd c.args.self.now

-- a list that is not of the channel
pub returns-in_default-clause-refused : goal.returns-in_default-clause-refused
returns-in_default-clause-refused g c = λ past stands.
    let at : place_of c.args.l c.self.inside.lists.plans.items ≡ None = sym c.place_of.ensures ∙ c.in_default.is in
    let none : track_at c.args.self.now c.args.l ≡ None =
    ap (λ s. track_at s c.args.l) (sym c.self.view_is) ∙ ap (option_and_then (λ i. slice_get (take (length c.self.inside.lists.plans.items) c.self.inside.lists.tracks) i)) at in
    let why = sym (ap stop_refusal (running_found g.S.SendEnd g.S.End.RingEnd c.args.self.now past c.args.l stands None none)) in
    subst (λ r. AnswersStop r (Some NotOfChannel)) why refl

-- one that doesn't run
pub returns-then-not-self-place-clause-refused : goal.returns-then-not-self-place-clause-refused
returns-then-not-self-place-clause-refused g c = λ past stands.
    let why = refusal_found g (goal.at.returns-then-not-self-place-clause-refused g c).In-Some past stands false c.if-not-self-place.true in
    subst (λ r. AnswersStop r (Some NotRunning)) why refl

-- one whose marker finds no room: that is no other fault
no_room_alone : {X : Type 0} (r : Result X StopFault) → r ≡ Err NoRoom → (r ≡ Err NotOfChannel) ⊎ (r ≡ Err NotRunning) → ⊥
no_room_alone r no_room (inl not_there) = cc
no_room_alone r no_room (inr stopped) = cc

pub returns-then-not-offer_marker-clause-not_of_channel : goal.returns-then-not-offer_marker-clause-not_of_channel
returns-then-not-offer_marker-clause-not_of_channel g c =
    let f = found g (goal.at.returns-then-not-offer_marker-clause-not_of_channel g c).In-Some in
    ((λ e. absurd (no_room_alone _ refl (inl e))), (λ e. absurd (not_missing _ _ f e)))

pub returns-then-not-offer_marker-clause-not_running : goal.returns-then-not-offer_marker-clause-not_running
returns-then-not-offer_marker-clause-not_running g c =
    ((λ e. absurd (no_room_alone _ refl (inr e))), (λ e. absurd (still_runs g (goal.at.returns-then-not-offer_marker-clause-not_running g c).In-Some c.if-not-self-place.false e)))

pub returns-then-not-offer_marker-clause-refused : goal.returns-then-not-offer_marker-clause-refused
returns-then-not-offer_marker-clause-refused g c = λ past stands.
    let why = refusal_found g (goal.at.returns-then-not-offer_marker-clause-refused g c).In-Some past stands true c.if-not-self-place.false in
    subst (λ r. AnswersStop r (Some NoRoom)) why (inr refl)

-- one that is stopped
pub returns-clause-refused : goal.returns-clause-refused
returns-clause-refused g c = λ past stands.
    let why = refusal_found g (goal.at.returns-clause-refused g c).In-Some past stands true c.if-not-self-place.false in
    subst (λ r. AnswersStop r None) why (inl refl)

-- and the sampler only looked at its end
pub returns-then-not-offer_marker-clause-err : goal.returns-then-not-offer_marker-clause-err
returns-then-not-offer_marker-clause-err g c =
    let before : SamplerState g.row.S.Denot = record { channel = c.self.inside.channel; segments = c.self.inside.segments.items; plans = c.self.inside.lists.plans.items; end = c.self.inside.end; tracks = take (length c.self.inside.lists.plans.items) c.self.inside.lists.tracks; triggers = c.self.inside.triggers; accepted = c.self.inside.accepted } in
    let m = c.offer_marker.ensures in
    let refused = c.if-not-offer_marker.true in
    let looked = looked-end g.S.SendEnd g.S.End.RingEnd before c.offer_marker.new.self (m.sent_stays refused) (m.free_stays refused) m.capacity_stays (omega (arith, m.none_held)) m.ring_stays in
    rw (← c.self.view_is) looked
