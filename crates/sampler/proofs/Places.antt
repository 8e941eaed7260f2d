-- The place of a list among plans whose numbers rise.
use Rattle.std.proofs.Common.{◌≡◌, ℕ, zero, suc, ◌+◌, ◌<◌, ◌≤◌, true, false, List, [], ◌∷◌, length, get_or, set, take, map, refl, ap, ◌∙◌, sym, subst, arith, nat_eq, length-take}
use Rattle.std.specs.Prelude.{Some, slice_get}
use Rattle.std.specs.Option.{option_and_then}
use Rattle.std.proofs.lemmas.List.{get_or-take}
use Rattle.std.proofs.lemmas.Bool.{ne_eqb}
use Rattle.std.proofs.lemmas.Bool.Decides.{nat_tests}
use Rattle.std.proofs.lemmas.List.Quantifiers.{position-Some}
use Rattle.xcp_base.specs.Forms.{usual_form}
use Rattle.segments.specs.declared.segment.Segment.{Segment}
use Rattle.copy_plan.specs.Config.{ListPlan}
use Rattle.sampler.specs.State.{RiseFrom, ArePlansOf, place_of}
use Rattle.channel_ring.specs.Making.{SampleLimit}
use Rattle.sampler.specs.Limits.{AllKeepTo}
use Rattle.sampler.specs.Inner.Fits.{TracksFit, NoneDueBefore, IsSampler}
use Rattle.std.proofs.Math.ListN.{length-set}
use Rattle.sampler.specs.declared.track.Track.{Track}

abbrev pub no_plan : ListPlan
no_plan = record { list = 0; channel = 0; prescaler = 0; first_pid = 0; form = usual_form; stamped = false; odts = []; segments = [] }

abbrev pub no_track : Track
no_track = record { running = false; next = 0; pending = false; counts = record { due = 0; accepted = 0; dropped = 0 } }

pub take-set_at : {X : Type 0} (xs : List X) (n i : ℕ) (y : X) → take n (set xs i y) ≡ set (take n xs) i y
take-set_at [] zero i y = refl
take-set_at [] (suc n) i y = refl
take-set_at (x ∷ xs) zero zero y = refl
take-set_at (x ∷ xs) zero (suc i) y = refl
take-set_at (x ∷ xs) (suc n) zero y = refl
take-set_at (x ∷ xs) (suc n) (suc i) y = ap (λ ys. x ∷ ys) (take-set_at xs n i y)

pub rise_least : (least : ℕ) (plans : List ListPlan) (i : ℕ) → RiseFrom least plans → i < length plans → least ≤ (get_or plans i no_plan).list
rise_least least [] i r h = absurd (omega arith)
rise_least least (plan ∷ plans) zero r h = r.0
rise_least least (plan ∷ plans) (suc i) r h = omega (arith, r.0, rise_least (plan.list + 1) plans i r.1 (omega arith))

module _ (f g : ListPlan → Track) (l : ℕ) (t u : Track) (others : (plan : ListPlan) → nat_eq l plan.list ≡ false → g plan ≡ f plan) (same : (plan : ListPlan) → nat_eq l plan.list ≡ true → f plan ≡ t → g plan ≡ u) where
  after_place : (least : ℕ) (plans : List ListPlan) → RiseFrom least plans → l < least → map g plans ≡ map f plans
  after_place least [] r h = refl
  after_place least (plan ∷ plans) r h =
      ap (λ rest. g plan ∷ rest) (after_place (plan.list + 1) plans r.1 (omega (arith, r.0)))
      ∙ ap (λ first. first ∷ map f plans) (others plan (ne_eqb l plan.list (λ e. omega (arith, e, r.0))))

  at_place : (least : ℕ) (plans : List ListPlan) (i : ℕ) → RiseFrom least plans → i < length plans → (get_or plans i no_plan).list ≡ l → get_or (map f plans) i no_track ≡ t → map g plans ≡ set (map f plans) i u
  at_place least [] i r h e is = absurd (omega arith)
  at_place least (plan ∷ plans) zero r h e is =
      let one : nat_eq l plan.list ≡ true = grind (arith, nat_tests) in
      ap (λ first. first ∷ map g plans) (same plan one is)
      ∙ ap (λ rest. u ∷ rest) (after_place (plan.list + 1) plans r.1 (omega arith))
  at_place least (plan ∷ plans) (suc i) r h e is =
      let above : plan.list + 1 ≤ (get_or plans i no_plan).list = rise_least (plan.list + 1) plans i r.1 (omega arith) in
      ap (λ first. first ∷ map g plans) (others plan (ne_eqb l plan.list (λ k. omega (arith, k, above, e))))
      ∙ ap (λ rest. f plan ∷ rest) (at_place (plan.list + 1) plans i r.1 (omega arith) e is)

  -- of plans whose numbers rise, a change of what one list has is one change of the list
  pub changed_at : (plans : List ListPlan) (i : ℕ) → RiseFrom 0 plans → place_of l plans ≡ Some i → get_or (map f plans) i no_track ≡ t → map g plans ≡ set (map f plans) i u
  changed_at plans i r at is =
      let found : (i < length plans) × (nat_eq (get_or plans i no_plan).list l ≡ true) × ((k : ℕ) → k < i → nat_eq (get_or plans k no_plan).list l ≡ false) = position-Some (λ (plan : ListPlan). nat_eq plan.list l) plans i no_plan at in
      let e : (get_or plans i no_plan).list ≡ l = grind (arith, nat_tests, found.1) in
      at_place 0 plans i r found.0 e is

-- the place of a list is one of the plans'
pub place-below : (l : ℕ) (plans : List ListPlan) (i : ℕ) → place_of l plans ≡ Some i → i < length plans
place-below l plans i at = (position-Some (λ (plan : ListPlan). nat_eq plan.list l) plans i no_plan at).0

pub slice_get-get_or : (ts : List Track) (i : ℕ) → i < length ts → slice_get ts i ≡ Some (get_or ts i no_track)
slice_get-get_or [] i h = absurd (omega arith)
slice_get-get_or (t ∷ ts) zero h = refl
slice_get-get_or (t ∷ ts) (suc i) h = slice_get-get_or ts i (omega arith)

-- what is kept of a list at a place
pub track-found : (l : ℕ) (plans : List ListPlan) (tracks : List Track) (i : ℕ) → place_of l plans ≡ Some i → length plans ≤ length tracks → option_and_then (λ k. slice_get (take (length plans) tracks) k) (place_of l plans) ≡ Some (get_or tracks i no_track)
track-found l plans tracks i at fits =
    let below : i < length plans = place-below l plans i at in
    ap (option_and_then (λ k. slice_get (take (length plans) tracks) k)) at
    ∙ slice_get-get_or (take (length plans) tracks) i (omega (arith, length-take (length plans) tracks))
    ∙ ap Some (get_or-take (length plans) tracks i no_track below)

list_of : (channel : ℕ) (segments : List Segment) (plans : List ListPlan) (i : ℕ) → ArePlansOf channel segments plans → i < length plans → (get_or plans i no_plan).list < 16
list_of channel segments [] i a h = absurd (omega arith)
list_of channel segments (plan ∷ plans) zero a h = a.0.0.list
list_of channel segments (plan ∷ plans) (suc i) a h = list_of channel segments plans i a.1 (omega arith)

-- a list that is found among plans has a number below 16
pub list-below : (channel : ℕ) (segments : List Segment) (l : ℕ) (plans : List ListPlan) (i : ℕ) → ArePlansOf channel segments plans → place_of l plans ≡ Some i → l < 16
list-below channel segments l plans i a at =
    let found : (i < length plans) × (nat_eq (get_or plans i no_plan).list l ≡ true) × ((k : ℕ) → k < i → nat_eq (get_or plans k no_plan).list l ≡ false) = position-Some (λ (plan : ListPlan). nat_eq plan.list l) plans i no_plan at in
    let e : (get_or plans i no_plan).list ≡ l = grind (arith, nat_tests, found.1) in
    omega (arith, e, list_of channel segments plans i a found.0)

-- another state of one list keeps the limits
pub TracksFit-set : (triggers : ℕ) (plans : List ListPlan) (tracks : List Track) (i : ℕ) (t : Track) → TracksFit triggers plans tracks → t.counts ≡ (get_or tracks i no_track).counts → TracksFit triggers plans (set tracks i t)
TracksFit-set triggers [] tracks i t f c = tt
TracksFit-set triggers (plan ∷ plans) [] i t f c = absurd f
TracksFit-set triggers (plan ∷ plans) (x ∷ tracks) zero t f c = ((rw c f.0.0, rw c f.0.1), f.1)
TracksFit-set triggers (plan ∷ plans) (x ∷ tracks) (suc i) t f c = (f.0, TracksFit-set triggers plans tracks i t f.1 c)

pub IsSampler-set : (channel image_len : ℕ) (segments : List Segment) (plans : List ListPlan) (tracks : List Track) (triggers soonest accepted i : ℕ) (t : Track) (sooner : ℕ) (most after : SampleLimit) → IsSampler channel image_len segments plans tracks triggers soonest accepted most → after ≡ most → t.counts ≡ (get_or tracks i no_track).counts → NoneDueBefore sooner (take (length plans) (set tracks i t)) → IsSampler channel image_len segments plans (set tracks i t) triggers sooner accepted after
IsSampler-set channel image_len segments plans tracks triggers soonest accepted i t sooner most after s stays c none = record {
  long = s.long;
  plans_of = s.plans_of;
  rising = s.rising;
  keep = subst (λ m. AllKeepTo m plans) (sym stays) s.keep;
  room = s.room;
  places = length-set tracks i t ∙ s.places;
  tracks_fit = TracksFit-set triggers plans tracks i t s.tracks_fit c;
  soonest_due = none;
  limit = s.limit;
  accepted_limit = s.accepted_limit;
}

slice_get-map : {X Y : Type 0} (f : X → Y) (xs : List X) (i : ℕ) (x : X) → slice_get xs i ≡ Some x → slice_get (map f xs) i ≡ Some (f x)
slice_get-map f [] i x is = absurd cc
slice_get-map f (y ∷ xs) zero x is = ap (λ z. Some (f z)) (the_same y x is)
  where
    the_same : {X : Type 0} (a b : X) → Some a ≡ Some b → a ≡ b
    the_same a b e = cc
slice_get-map f (y ∷ xs) (suc i) x is = slice_get-map f xs i x is
