-- What is kept at the opening, and the sets of lists.
use Rattle.std.proofs.Common.{◌≡◌, ℕ, zero, suc, ◌+◌, ◌<◌, ◌≤◌, Bool, true, false, ◌&&◌, ◌||◌, List, [], ◌∷◌, ◌++◌, length, get_or, set, take, map, refl, sym, ap, ◌∙◌, arith, nat_eq, cond}
use Rattle.std.specs.Prelude.{Option, Some, None, if◌then◌else◌}
use Rattle.std.specs.Option.{option_and_then}
use Rattle.std.specs.Prelude.{slice_get}
use Rattle.xcp_base.specs.declared.item.Item.{Item}
use Rattle.std.proofs.lemmas.Bool.{ne_eqb}
use Rattle.std.proofs.lemmas.Bool.Decides.{nat_tests}
use Rattle.std.proofs.lemmas.List.Quantifiers.{position-Some}
use Rattle.std.proofs.lemmas.List.Sums.{fails_before_first}
use Rattle.std.specs.Prelude.{nat_lt}
use Rattle.std.specs.List.{position_or_len}
use Rattle.channel_ring.specs.declared.ends.SendEnd.{Ghosts as SendGhosts}
use Rattle.channel_ring.specs.declared.ends.RingEnd.{Ghosts as EndGhosts}
use Rattle.segments.specs.declared.segment.Segment.{Segment}
use Rattle.segments.specs.Image.{image_len}
use Rattle.copy_plan.specs.Config.{ListPlan}
use Rattle.xcp_base.specs.Lists.{has_list}
use Rattle.sampler.specs.History.{Event, Trigger, Opening, runs_after, triggers_since_start, due, with_past}
use Rattle.sampler.specs.Past.{first_past}
use Rattle.sampler.specs.Decisions.{overload_pending}
use Rattle.sampler.specs.Items.{items}
use Rattle.sampler.specs.Tracks.{track_of, next_after, until_due, counts_of}
use Rattle.channel_ring.specs.Making.{SampleLimit}
use Rattle.sampler.specs.Limits.{AllKeepTo}
use Rattle.sampler.specs.Inner.Fits.{first_track}
use Rattle.sampler.specs.State.{ArePlansOf, RiseFrom, place_of, track_runs}
use Rattle.sampler.specs.Inner.Fits.{TracksFit, NoneDueBefore, IsSampler, list_runs}
use Rattle.sampler.specs.Standing.{StandsAfter, DropsOnlyWhenFull}
use Rattle.sampler.specs.declared.track.TheConstants.{NEVER}
use Rattle.sampler.specs.declared.track.Track.{Track}
use Rattle.sampler.proofs.NextDue.{until_due-zero}
use Rattle.sampler.proofs.Places.{no_plan, no_track, rise_least, slice_get-get_or}

pub take-all : (plans : List ListPlan) → take (length plans) plans ≡ plans
take-all [] = refl
take-all (plan ∷ plans) = ap (λ ps. plan ∷ ps) (take-all plans)

pub take-set-suc : (ts : List Track) (i : ℕ) (t : Track) → i < length ts → take (suc i) (set ts i t) ≡ take i ts ++ t ∷ []
take-set-suc [] i t h = absurd (omega arith)
take-set-suc (x ∷ ts) zero t h = refl
take-set-suc (x ∷ ts) (suc i) t h = ap (λ ys. x ∷ ys) (take-set-suc ts i t (omega arith))

-- list k runs among these plans and tracks
abbrev pub runs_among : ℕ → List ListPlan → List Track → Bool
runs_among k [] tracks = false
runs_among k (plan ∷ plans) [] = false
runs_among k (plan ∷ plans) (t ∷ tracks) = (t.running && nat_eq plan.list k) || runs_among k plans tracks

or_assoc : (a b c : Bool) → (a || (b || c)) ≡ ((a || b) || c)
or_assoc true b c = refl
or_assoc false b c = refl

or_false : (a : Bool) → (a || false) ≡ a
or_false true = refl
or_false false = refl

and_false : (a : Bool) → (a && false) ≡ false
and_false true = refl
and_false false = refl

and_true : (a : Bool) → (a && true) ≡ a
and_true true = refl
and_true false = refl

pub runs_among-suc : (k : ℕ) (plans : List ListPlan) (tracks : List Track) (i : ℕ) (p : ListPlan) (t : Track) → i < length plans → i < length tracks → runs_among k (take (suc i) plans) (take (suc i) tracks) ≡ (runs_among k (take i plans) (take i tracks) || ((get_or tracks i t).running && nat_eq (get_or plans i p).list k))
runs_among-suc k [] tracks i p t h r = absurd (omega arith)
runs_among-suc k (plan ∷ plans) [] i p t h r = absurd (omega arith)
runs_among-suc k (plan ∷ plans) (x ∷ tracks) zero p t h r = or_false (x.running && nat_eq plan.list k)
runs_among-suc k (plan ∷ plans) (x ∷ tracks) (suc i) p t h r =
    ap (λ b. (x.running && nat_eq plan.list k) || b) (runs_among-suc k plans tracks i p t (omega arith) (omega arith))
    ∙ or_assoc (x.running && nat_eq plan.list k) (runs_among k (take i plans) (take i tracks)) ((get_or tracks i t).running && nat_eq (get_or plans i p).list k)

none_above : (k least : ℕ) (plans : List ListPlan) (tracks : List Track) → RiseFrom least plans → k < least → runs_among k plans tracks ≡ false
none_above k least [] tracks r h = refl
none_above k least (plan ∷ plans) [] r h = refl
none_above k least (plan ∷ plans) (t ∷ tracks) r h =
    ap (λ b. (t.running && b) || runs_among k plans tracks) (ne_eqb plan.list k (λ e. omega (arith, e, r.0)))
    ∙ ap (λ b. b || runs_among k plans tracks) (and_false t.running)
    ∙ none_above k (plan.list + 1) plans tracks r.1 (omega (arith, r.0))

runs_among-at : (k least : ℕ) (plans : List ListPlan) (tracks : List Track) (i : ℕ) → RiseFrom least plans → i < length plans → length plans ≤ length tracks → (get_or plans i no_plan).list ≡ k → runs_among k plans tracks ≡ (get_or tracks i no_track).running
runs_among-at k least [] tracks i r h fits e = absurd (omega arith)
runs_among-at k least (plan ∷ plans) [] i r h fits e = absurd (omega arith)
runs_among-at k least (plan ∷ plans) (t ∷ tracks) zero r h fits e =
    let one : nat_eq plan.list k ≡ true = grind (arith, nat_tests) in
    ap (λ b. (t.running && b) || runs_among k plans tracks) one
    ∙ ap (λ b. (t.running && true) || b) (none_above k (plan.list + 1) plans tracks r.1 (omega arith))
    ∙ or_false (t.running && true) ∙ and_true t.running
runs_among-at k least (plan ∷ plans) (t ∷ tracks) (suc i) r h fits e =
    let above : plan.list + 1 ≤ (get_or plans i no_plan).list = rise_least (plan.list + 1) plans i r.1 (omega arith) in
    ap (λ b. (t.running && b) || runs_among k plans tracks) (ne_eqb plan.list k (λ q. omega (arith, q, above, e)))
    ∙ ap (λ b. b || runs_among k plans tracks) (and_false t.running)
    ∙ runs_among-at k (plan.list + 1) plans tracks i r.1 (omega arith) (omega arith) e

runs_among-none : (k : ℕ) (plans : List ListPlan) (tracks : List Track) → ((i : ℕ) → i < length plans → nat_eq (get_or plans i no_plan).list k ≡ false) → runs_among k plans tracks ≡ false
runs_among-none k [] tracks h = refl
runs_among-none k (plan ∷ plans) [] h = refl
runs_among-none k (plan ∷ plans) (t ∷ tracks) h =
    ap (λ b. (t.running && b) || runs_among k plans tracks) (h zero (omega arith))
    ∙ ap (λ b. b || runs_among k plans tracks) (and_false t.running)
    ∙ runs_among-none k plans tracks (λ i b. h (suc i) (omega (arith, b)))

pub no_place : (b : Bool) (i : ℕ) → cond b (Some i) None ≡ None → b ≡ false
no_place true i e = absurd cc
no_place false i e = refl

pub not_less : (a b : ℕ) → nat_lt a b ≡ false → b ≤ a
not_less a b e = grind (arith, nat_tests)

by_place : (k : ℕ) (plans : List ListPlan) (tracks : List Track) (o : Option ℕ) → RiseFrom 0 plans → length plans ≤ length tracks → place_of k plans ≡ o → track_runs (option_and_then (λ i. slice_get tracks i) o) ≡ runs_among k plans tracks
by_place k plans tracks None r fits e =
    let p : ListPlan → Bool = λ plan. nat_eq plan.list k in
    let none : length plans ≤ position_or_len p plans = not_less (position_or_len p plans) (length plans) (no_place (nat_lt (position_or_len p plans) (length plans)) (position_or_len p plans) e) in
    sym (runs_among-none k plans tracks (λ i b. fails_before_first p plans i no_plan (omega (arith, b, none))))
by_place k plans tracks (Some i) r fits e =
    let found : (i < length plans) × (nat_eq (get_or plans i no_plan).list k ≡ true) × ((j : ℕ) → j < i → nat_eq (get_or plans j no_plan).list k ≡ false) = position-Some (λ (plan : ListPlan). nat_eq plan.list k) plans i no_plan e in
    let is : (get_or plans i no_plan).list ≡ k = grind (arith, nat_tests, found.1) in
    ap track_runs (slice_get-get_or tracks i (omega (arith, found.0)))
    ∙ sym (runs_among-at k 0 plans tracks i r found.0 fits is)

-- the first place of a list tells as much as all places do
pub list_runs-among : (k : ℕ) (plans : List ListPlan) (tracks : List Track) → RiseFrom 0 plans → length plans ≤ length tracks → list_runs k plans tracks ≡ runs_among k plans tracks
list_runs-among k plans tracks r fits = by_place k plans tracks (place_of k plans) r fits refl

pub rise-length : (channel : ℕ) (segments : List Segment) (least : ℕ) (plans : List ListPlan) → RiseFrom least plans → ArePlansOf channel segments plans → least ≤ 16 → least + length plans ≤ 16
rise-length channel segments least [] r a h = omega arith
rise-length channel segments least (plan ∷ plans) r a h = omega (arith, r.0, rise-length channel segments (plan.list + 1) plans r.1 a.1 (omega (arith, a.0.0.list)))

first-fit : (channel : ℕ) (segments : List Segment) (running : ℕ) (plans : List ListPlan) (tracks : List Track) → ArePlansOf channel segments plans → take (length plans) tracks ≡ map (λ (plan : ListPlan). first_track running plan.list) plans → TracksFit 0 plans tracks
first-fit channel segments running [] tracks a is = tt
first-fit channel segments running (plan ∷ plans) [] a is = absurd cc
first-fit channel segments running (plan ∷ plans) (t ∷ tracks) a is =
    let first : t ≡ first_track running plan.list = cc in
    let rest : take (length plans) tracks ≡ map (λ (plan : ListPlan). first_track running plan.list) plans = cc in
    (rw first (omega arith, refl), first-fit channel segments running plans tracks a.1 rest)

pub first-sampler : (channel len running : ℕ) (segments : List Segment) (plans : List ListPlan) (tracks : List Track) (soonest : ℕ) (most : SampleLimit) → len ≡ image_len segments → ArePlansOf channel segments plans → RiseFrom 0 plans → AllKeepTo most plans → length tracks ≡ 16 → take (length plans) tracks ≡ map (λ (plan : ListPlan). first_track running plan.list) plans → NoneDueBefore soonest (take (length plans) tracks) → IsSampler channel len segments plans tracks 0 soonest 0 most
first-sampler channel len running segments plans tracks soonest most long a r keep places is none = record {
  long = long;
  plans_of = a;
  rising = r;
  keep = keep;
  room = omega (arith, rise-length channel segments 0 plans r a (omega arith));
  places = places;
  tracks_fit = first-fit channel segments running plans tracks a is;
  soonest_due = none;
  limit = omega arith;
  accepted_limit = omega arith;
}

first_of : (o : Opening) (plan : ListPlan) → track_of o [] [] plan ≡ first_track o.running plan.list
unfolding track_of next_after runs_after triggers_since_start counts_of overload_pending due with_past
first_of o plan =
    let now : 0 + until_due plan.prescaler 0 ≡ 0 = ap (λ n. 0 + n) (until_due-zero plan.prescaler) in
    ap (λ n. record { running = has_list o.running plan.list; next = if has_list o.running plan.list then n else NEVER; pending = false; counts = record { due = 0; accepted = 0; dropped = 0 } }) now

firsts_of : (o : Opening) (plans : List ListPlan) → map (λ (plan : ListPlan). first_track o.running plan.list) plans ≡ map (track_of o [] []) plans
firsts_of o [] = refl
firsts_of o (plan ∷ plans) =
    ap (λ t. t ∷ map (λ (p : ListPlan). first_track o.running p.list) plans) (sym (first_of o plan))
    ∙ ap (λ ts. track_of o [] [] plan ∷ ts) (firsts_of o plans)

no_event : (past rest : List Event) (e : Event) → [] ≡ past ++ e ∷ rest → ⊥
no_event [] rest e is = cc
no_event (x ∷ past) rest e is = cc

no_items : (o : Opening) → items o [] [] ≡ []
unfolding items with_past
no_items o = refl

no_due : (o : Opening) → due o [] ≡ []
unfolding due with_past
no_due o = refl

pub no_drops : (capacity : ℕ) (cost : Item → ℕ) (o : Opening) → DropsOnlyWhenFull capacity cost (first_past o)
unfolding DropsOnlyWhenFull
no_drops capacity cost o = λ before rest image stamp k plan is. absurd (no_event before rest (Trigger image stamp) is)

-- a new sampler stands after nothing
pub first-stands : {S E : Type 0} (send : SendGhosts S E) (ring : EndGhosts E) (channel : ℕ) (segments : List Segment) (running : ℕ) (plans : List ListPlan) (end : S) (tracks : List Track) → ArePlansOf channel segments plans → take (length plans) tracks ≡ map (λ (plan : ListPlan). first_track running plan.list) plans → send.sent end ≡ [] →
    StandsAfter send ring (record { channel = channel; segments = segments; plans = plans; end = end; tracks = take (length plans) tracks; triggers = 0; accepted = 0 }) (first_past (record { channel = channel; plans = plans; running = running }))
first-stands send ring channel segments running plans end tracks a is none =
    let o : Opening = record { channel = channel; plans = plans; running = running } in
    record {
      channel = refl;
      plans = refl;
      decisions = ap length (sym (no_due o));
      sent = none ∙ sym (no_items o);
      tracks = is ∙ firsts_of o plans;
      triggers = refl;
      accepted = refl;
      drops = no_drops (send.capacity end) ring.cost o;
    }
