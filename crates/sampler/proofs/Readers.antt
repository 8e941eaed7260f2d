-- What a sampler answers of a list, by its history.
use Rattle.std.proofs.Common.{◌≡◌, ℕ, zero, suc, ◌<◌, ◌≤◌, Bool, true, false, ◌&&◌, ◌||◌, List, [], ◌∷◌, length, get_or, map, refl, sym, ap, ◌∙◌, arith, nat_eq}
use Rattle.std.specs.Prelude.{Option, Some, None, if◌then◌else◌, slice_get, nat_lt}
use Rattle.std.specs.Option.{option_and_then, option_map}
use Rattle.std.specs.List.{list_any, position_or_len}
use Rattle.std.proofs.lemmas.Bool.Decides.{nat_tests}
use Rattle.std.proofs.lemmas.Option.{slice_get-map}
use Rattle.std.proofs.lemmas.List.Quantifiers.{position-Some}
use Rattle.std.proofs.lemmas.List.Sums.{fails_before_first}
use Rattle.channel_ring.specs.declared.ends.SendEnd.{Ghosts as SendGhosts}
use Rattle.channel_ring.specs.declared.ends.RingEnd.{Ghosts as EndGhosts}
use Rattle.copy_plan.specs.Config.{ListPlan}
use Rattle.sampler.specs.History.{Event, Opening, runs_after, is_list_of}
use Rattle.sampler.specs.Past.{Past}
use Rattle.sampler.specs.Decisions.{decided, pairs_of}
use Rattle.sampler.specs.Tracks.{track_of, counts_of, counts_after}
use Rattle.sampler.specs.State.{SamplerState, JoinedEnd, place_of, found_at, track_at, runs_in, track_runs}
use Rattle.sampler.specs.Refusals.{running_at}
use Rattle.sampler.specs.Standing.{StandsAfter, EndStandsAfter}
use Rattle.sampler.specs.declared.track.Track.{Track}
use Rattle.sampler.proofs.Places.{no_plan}
use Rattle.sampler.proofs.FirstTracks.{not_less, no_place}

or_true : (b : Bool) → (b || true) ≡ true
or_true true = refl
or_true false = refl

-- what f gives of any plan of list l is x
module _ {X : Type 0} (f : ListPlan → X) (l : ℕ) (x : X) (same : (plan : ListPlan) → plan.list ≡ l → f plan ≡ x) where
  abbrev is_of_l : ListPlan → Bool
  is_of_l plan = nat_eq plan.list l

  abbrev if_there : Bool → Option X
  if_there b = if b then Some x else None

  none-of : (plans : List ListPlan) → ((i : ℕ) → i < length plans → is_of_l (get_or plans i no_plan) ≡ false) → list_any is_of_l plans ≡ false
  none-of [] h = refl
  none-of (plan ∷ plans) h =
      ap (λ b. b || list_any is_of_l plans) (h zero (omega arith))
      ∙ none-of plans (λ i b. h (suc i) (omega (arith, b)))

  some-of : (plans : List ListPlan) (i : ℕ) → i < length plans → is_of_l (get_or plans i no_plan) ≡ true → (list_any is_of_l plans ≡ true) × (slice_get (map f plans) i ≡ Some x)
  some-of [] i h e = absurd (omega arith)
  some-of (plan ∷ plans) zero h e =
      let is : plan.list ≡ l = grind (arith, nat_tests, e) in
      (ap (λ b. b || list_any is_of_l plans) e, ap Some (same plan is))
  some-of (plan ∷ plans) (suc i) h e =
      let later : (list_any is_of_l plans ≡ true) × (slice_get (map f plans) i ≡ Some x) = some-of plans i (omega arith) e in
      (ap (λ b. is_of_l plan || b) later.0 ∙ or_true (is_of_l plan), later.1)

  by_place : (plans : List ListPlan) (at : Option ℕ) → place_of l plans ≡ at → option_and_then (λ i. slice_get (map f plans) i) at ≡ if_there (list_any is_of_l plans)
  by_place plans None e =
      let none : length plans ≤ position_or_len is_of_l plans = not_less (position_or_len is_of_l plans) (length plans) (no_place (nat_lt (position_or_len is_of_l plans) (length plans)) (position_or_len is_of_l plans) e) in
      ap if_there (sym (none-of plans (λ i b. fails_before_first is_of_l plans i no_plan (omega (arith, b, none)))))
  by_place plans (Some i) e =
      let found : (i < length plans) × (is_of_l (get_or plans i no_plan) ≡ true) × ((k : ℕ) → k < i → is_of_l (get_or plans k no_plan) ≡ false) = position-Some is_of_l plans i no_plan e in
      let there : (list_any is_of_l plans ≡ true) × (slice_get (map f plans) i ≡ Some x) = some-of plans i found.0 found.1 in
      there.1 ∙ ap if_there (sym there.0)

  -- so the first place of list l finds x, where a plan of it is there
  pub found-is : (plans : List ListPlan) → option_and_then (λ i. slice_get (map f plans) i) (place_of l plans) ≡ (if list_any (λ (plan : ListPlan). nat_eq plan.list l) plans then Some x else None)
  found-is plans = by_place plans (place_of l plans) refl

map_twice : {X : Type 0} (g : Track → X) (f : ListPlan → Track) (plans : List ListPlan) → map g (map f plans) ≡ map (λ (plan : ListPlan). g (f plan)) plans
map_twice g f [] = refl
map_twice g f (plan ∷ plans) = ap (λ rest. g (f plan) ∷ rest) (map_twice g f plans)

pub map-found : {X : Type 0} (g : Track → X) (tracks : List Track) (at : Option ℕ) → option_map g (option_and_then (λ i. slice_get tracks i) at) ≡ option_and_then (λ i. slice_get (map g tracks) i) at
map-found g tracks None = refl
map-found g tracks (Some i) = sym (slice_get-map g tracks i)

abbrev truth : Option Bool → Bool
truth None = false
truth (Some b) = b

runs-truth : (at : Option Track) → track_runs at ≡ truth (option_map (λ (track : Track). track.running) at)
runs-truth None = refl
runs-truth (Some track) = refl

truth-if : (there b : Bool) → truth (if there then Some b else None) ≡ (there && b)
truth-if true b = refl
truth-if false b = refl

module _ (past : Past) (l : ℕ) where
  abbrev o : Opening
  o = past.opening

  abbrev h : List Event
  h = past.history

  abbrev d : List Bool
  d = past.decisions

  -- the counts that are kept of list l
  counts-kept : option_and_then (λ i. slice_get (map (λ (plan : ListPlan). counts_of (pairs_of plan.list (decided o h d))) o.plans) i) (place_of l o.plans) ≡ counts_after past l
  counts-kept = found-is (λ plan. counts_of (pairs_of plan.list (decided o h d))) l (counts_of (pairs_of l (decided o h d))) (λ plan e. ap (λ k. counts_of (pairs_of k (decided o h d))) e) o.plans

  counts-found_at : option_map (λ (track : Track). track.counts) (found_at l o.plans (map (track_of o h d) o.plans)) ≡ counts_after past l
  unfolding track_of
  counts-found_at =
      map-found (λ (track : Track). track.counts) (map (track_of o h d) o.plans) (place_of l o.plans)
      ∙ ap (λ cs. option_and_then (λ i. slice_get cs i) (place_of l o.plans)) (map_twice (λ (track : Track). track.counts) (track_of o h d) o.plans)
      ∙ counts-kept

  running-found_at : option_map (λ (track : Track). track.running) (found_at l o.plans (map (track_of o h d) o.plans)) ≡ running_at past l
  unfolding track_of
  running-found_at =
      map-found (λ (track : Track). track.running) (map (track_of o h d) o.plans) (place_of l o.plans)
      ∙ ap (λ bs. option_and_then (λ i. slice_get bs i) (place_of l o.plans)) (map_twice (λ (track : Track). track.running) (track_of o h d) o.plans)
      ∙ found-is (λ plan. runs_after o h plan.list) l (runs_after o h l) (λ plan e. ap (runs_after o h) e) o.plans

  runs-found_at : track_runs (found_at l o.plans (map (track_of o h d) o.plans)) ≡ (is_list_of o l && runs_after o h l)
  runs-found_at =
      runs-truth (found_at l o.plans (map (track_of o h d) o.plans))
      ∙ ap truth running-found_at
      ∙ truth-if (is_list_of o l) (runs_after o h l)

module _ {S E : Type 0} (send : SendGhosts S E) (ring : EndGhosts E) (s : SamplerState S) (past : Past) (l : ℕ) (stands : StandsAfter send ring s past) where
  pub sampler-counts : option_map (λ (track : Track). track.counts) (track_at s l) ≡ counts_after past l
  sampler-counts =
      ap (λ plans. option_map (λ (track : Track). track.counts) (found_at l plans s.tracks)) stands.plans
      ∙ ap (λ tracks. option_map (λ (track : Track). track.counts) (found_at l past.opening.plans tracks)) stands.tracks
      ∙ counts-found_at past l

  -- whether a list runs, by what is kept of it
  pub running_found : (at : Option Track) → track_at s l ≡ at → running_at past l ≡ option_map (λ (track : Track). track.running) at
  running_found at is =
      sym (ap (λ plans. option_map (λ (track : Track). track.running) (found_at l plans s.tracks)) stands.plans
      ∙ ap (λ tracks. option_map (λ (track : Track). track.running) (found_at l past.opening.plans tracks)) stands.tracks
      ∙ running-found_at past l) ∙ ap (option_map (λ (track : Track). track.running)) is

  pub sampler-runs : runs_in s l ≡ (is_list_of past.opening l && runs_after past.opening past.history l)
  sampler-runs =
      ap (λ plans. track_runs (found_at l plans s.tracks)) stands.plans
      ∙ ap (λ tracks. track_runs (found_at l past.opening.plans tracks)) stands.tracks
      ∙ runs-found_at past l

pub end-counts : (s : JoinedEnd) (past : Past) (l : ℕ) → EndStandsAfter s past → option_and_then (λ i. slice_get s.counts i) (place_of l s.plans) ≡ counts_after past l
end-counts s past l stands =
    ap (λ plans. option_and_then (λ i. slice_get s.counts i) (place_of l plans)) stands.plans
    ∙ ap (λ counts. option_and_then (λ i. slice_get counts i) (place_of l past.opening.plans)) stands.counts
    ∙ counts-kept past l
