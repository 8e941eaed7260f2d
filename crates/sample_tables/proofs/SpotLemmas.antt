-- The numbers of samples in their lists, and one sample more.
use Rattle.std.proofs.Common.{◌≡◌, ◌≢◌, ℕ, zero, suc, ◌+◌, ◌%◌, ◌^◌, ◌<◌, ◌≤◌, ◌==◌, Bool, true, false, if◌then◌else◌, List, [], ◌∷◌, length, map, filter, slice_get, slice_set, replicate, Option, Some, None, ◌⊎◌, refl, sym, ap, subst, ◌∙◌, arith, inl, inr}
use Rattle.std.specs.Prelude.{IsSome}
use Rattle.std.proofs.lemmas.Bool.Decides.{eqb_tells}
use Rattle.std.proofs.lemmas.List.{length-set}
use Rattle.copy_plan.specs.Config.{ListPlan}
use Rattle.daq_reader.specs.Lists.{given}
use Rattle.daq_reader.specs.Recorded.{Recorded}
use Rattle.sample_tables.specs.declared.spot.Spot.{Spot}
use Rattle.sample_tables.specs.declared.spots.Spots.{Spots}
use Rattle.sample_tables.specs.Spots.{AreNumbers, KnowsSpots, spot_of, time_in}
use Rattle.sample_tables.specs.Times.{KnowsLast, stands_in, stands_of, stands_with, time_at}
use Rattle.sample_tables.proofs.TallyLemmas.{all_same, get_other, get_same}

-- the samples of a list, with one more in front, of this list or of another
given_here : (i place : ℕ) (r : Recorded) (earlier : List (ℕ × Recorded)) → (place == i) ≡ true → given i ((place, r) ∷ earlier) ≡ r ∷ given i earlier
given_here i place r earlier h =
    let one : ℕ × Recorded = (place, r) in
    let second : ℕ × Recorded → Recorded = λ (s : ℕ × Recorded). s.1 in
    let kept : List (ℕ × Recorded) = filter (λ (s : ℕ × Recorded). s.0 == i) earlier in
    ap (λ (v : Bool). map second (if v then one ∷ kept else kept)) h

given_not_here : (i place : ℕ) (r : Recorded) (earlier : List (ℕ × Recorded)) → (place == i) ≡ false → given i ((place, r) ∷ earlier) ≡ given i earlier
given_not_here i place r earlier h =
    let one : ℕ × Recorded = (place, r) in
    let second : ℕ × Recorded → Recorded = λ (s : ℕ × Recorded). s.1 in
    let kept : List (ℕ × Recorded) = filter (λ (s : ℕ × Recorded). s.0 == i) earlier in
    ap (λ (v : Bool). map second (if v then one ∷ kept else kept)) h

-- one sample more of the list at the place
pub numbers_more : (numbers : List ℕ) (place number : ℕ) (earlier : List (ℕ × Recorded)) (r : Recorded) → AreNumbers numbers earlier
    → place < length numbers → slice_get numbers place ≡ Some number
    → AreNumbers (slice_set numbers place ((number + 1) % 2 ^ 64)) ((place, r) ∷ earlier)
numbers_more numbers place number earlier r all within there i below = by_place (eqb_tells place i)
  where
    short : i < length numbers
    short = omega (arith, below, length-set numbers place ((number + 1) % 2 ^ 64))

    some : Some number ≡ Some (length (given place earlier) % 2 ^ 64)
    some = sym there ∙ all place within

    was : number ≡ length (given place earlier) % 2 ^ 64
    was = cc (some)

    more : ((place == i) ≡ true) → place ≡ i → (number + 1) % 2 ^ 64 ≡ length (given i ((place, r) ∷ earlier)) % 2 ^ 64
    more h same =
        let one : length (given i ((place, r) ∷ earlier)) ≡ length (given i earlier) + 1 = ap length (given_here i place r earlier h) ∙ omega arith in
        let here : length (given place earlier) ≡ length (given i earlier) = ap (λ (k : ℕ). length (given k earlier)) same in
        omega (arith, was, one, here)

    by_place : (((place == i) ≡ true) × (place ≡ i)) ⊎ (((place == i) ≡ false) × (place ≢ i)) → slice_get (slice_set numbers place ((number + 1) % 2 ^ 64)) i ≡ Some (length (given i ((place, r) ∷ earlier)) % 2 ^ 64)
    by_place (inl v) = subst (λ k. slice_get (slice_set numbers place ((number + 1) % 2 ^ 64)) k ≡ Some ((number + 1) % 2 ^ 64)) v.1 (get_same numbers place ((number + 1) % 2 ^ 64) within) ∙ ap Some (more v.0 v.1)
    by_place (inr v) = get_other numbers place i ((number + 1) % 2 ^ 64) within short (λ e. v.1 (sym e)) ∙ all i short ∙ ap (λ (rs : List Recorded). Some (length rs % 2 ^ 64)) (sym (given_not_here i place r earlier v.0))

-- the number of the next one
pub is_number : (numbers : List ℕ) (place number : ℕ) (earlier : List (ℕ × Recorded)) → AreNumbers numbers earlier
    → place < length numbers → slice_get numbers place ≡ Some number → number ≡ length (given place earlier) % 2 ^ 64
is_number numbers place number earlier all within there =
    let some : Some number ≡ Some (length (given place earlier) % 2 ^ 64) = sym there ∙ all place within in
    cc (some)

-- one sample of a list that isn't there
pub numbers_past : (numbers : List ℕ) (place : ℕ) (earlier : List (ℕ × Recorded)) (r : Recorded) → AreNumbers numbers earlier → length numbers ≤ place → AreNumbers numbers ((place, r) ∷ earlier)
numbers_past numbers place earlier r all past i below = by_place (eqb_tells place i)
  where
    by_place : (((place == i) ≡ true) × (place ≡ i)) ⊎ (((place == i) ≡ false) × (place ≢ i)) → slice_get numbers i ≡ Some (length (given i ((place, r) ∷ earlier)) % 2 ^ 64)
    by_place (inl v) = absurd (omega (arith, past, below, v.1))
    by_place (inr v) = all i below ∙ ap (λ (rs : List Recorded). Some (length rs % 2 ^ 64)) (sym (given_not_here i place r earlier v.0))

pub no_numbers : (n : ℕ) → AreNumbers (replicate n 0) []
no_numbers n i below = all_same n i 0 below

-- what is there is within
pub within : {X : Type 0} (xs : List X) (i : ℕ) (o : Option X) → o ≡ slice_get xs i → IsSome o → i < length xs
within [] i o is some = absurd (cc (is, some))
within (x ∷ xs) zero o is some = omega arith
within (x ∷ xs) (suc i) o is some = let rest : i < length xs = within xs i o is some in omega arith

-- what isn't there is past the end
past : {X : Type 0} (xs : List X) (i : ℕ) → slice_get xs i ≡ None → length xs ≤ i
past [] i h = omega arith
past (x ∷ xs) zero h = absurd (cc (h))
past (x ∷ xs) (suc i) h = let rest : length xs ≤ i = past xs i h in omega arith

-- a sample of a list
pub is_spot : (plans : List ListPlan) (plan : ListPlan) (earlier : List (ℕ × Recorded)) (place number : ℕ) (time : Option ℕ) (r : Recorded) → slice_get plans place ≡ Some plan
    → number ≡ length (given place earlier) % 2 ^ 64 → time ≡ time_at plan.form.stamp place (stands_of plans earlier) r.stamp
    → ◌≡◌ {A = Spot} (record { number = number; time = time }) (spot_of plans earlier place r)
is_spot plans plan earlier place number time r there is at =
    let all : time ≡ time_in (slice_get plans place) place (stands_of plans earlier) r.stamp = at ∙ ap (λ (o : Option ListPlan). time_in o place (stands_of plans earlier) r.stamp) (sym there) in
    rw (is, all) refl

pub knows_sample : (old now : Spots) (plans : List ListPlan) (plan : ListPlan) (earlier : List (ℕ × Recorded)) (place : ℕ) (r : Recorded) → KnowsSpots old plans earlier
    → slice_get plans place ≡ Some plan → length now.numbers.items ≡ length old.numbers.items → length now.times.lists.items ≡ length old.times.lists.items
    → AreNumbers now.numbers.items ((place, r) ∷ earlier) → KnowsLast now.times (stands_with plan.form.stamp place (stands_of plans earlier) r.stamp)
    → KnowsSpots now plans ((place, r) ∷ earlier)
knows_sample old now plans plan earlier place r knows there same same_times numbers times = record {
  all = same ∙ knows.all;
  all_times = same_times ∙ knows.all_times;
  numbers = numbers;
  times = subst (λ (o : Option ListPlan). KnowsLast now.times (stands_in o place (stands_of plans earlier) r.stamp)) (sym there) times;
}

-- a sample of no list
pub knows_none : (spots : Spots) (plans : List ListPlan) (earlier : List (ℕ × Recorded)) (place : ℕ) (r : Recorded) → KnowsSpots spots plans earlier
    → slice_get plans place ≡ None → KnowsSpots spots plans ((place, r) ∷ earlier)
knows_none spots plans earlier place r knows there =
    let beyond : length plans ≤ place = past plans place there in
    record {
      all = knows.all;
      all_times = knows.all_times;
      numbers = numbers_past spots.numbers.items place earlier r knows.numbers (omega (arith, knows.all, beyond));
      times = subst (λ (o : Option ListPlan). KnowsLast spots.times (stands_in o place (stands_of plans earlier) r.stamp)) (sym there) knows.times;
    }
