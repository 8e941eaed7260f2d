-- The ready lists of a store are those of its event channels.
use Rattle.std.proofs.Common.{◌≡◌, ℕ, zero, suc, ◌+◌, ◌<◌, ◌≤◌, inl, inr, Bool, true, false, ◌&&◌, List, ◌∷◌, map, length, filter, cond, nat_eq, Some, sym, refl, ap, subst, ◌∙◌, arith}
use Rattle.std.specs.Prelude.{slice_get}
use Rattle.std.specs.List.{range_with_len}
use Rattle.std.proofs.lemmas.Bool.{eq-eqb}
use Rattle.std.proofs.lemmas.Bool.Decides.{eqb_tells}
use Rattle.copy_plan.specs.Config.{ListPlan}
use Rattle.daq_store.specs.Configuration.{channel_of, is_ready}
use Rattle.daq_store.specs.Standing.{StoreState, conf_of}
use Rattle.sampler.specs.Past.{Past}
use Rattle.daq_engine.specs.Openings.{IsOpeningOf, is_ready_on, list_plan}
use Rattle.recording.specs.Plans.{AreAllPlans, plans_in}

module _ (f : ℕ → ListPlan) where
  here-step : (b : Bool) (a : ℕ) (ls : List ℕ) → b ≡ true → (i : ℕ) × (slice_get (map f (cond b (a ∷ ls) ls)) i ≡ Some (f a))
  here-step true a ls is = (0, refl)
  here-step false a ls is = absurd cc

  later-step : (b : Bool) (a : ℕ) (ls : List ℕ) (x : ListPlan) → (i : ℕ) × (slice_get (map f ls) i ≡ Some x)
      → (i : ℕ) × (slice_get (map f (cond b (a ∷ ls) ls)) i ≡ Some x)
  later-step true a ls x (i, at) = (suc i, at)
  later-step false a ls x (i, at) = (i, at)

  -- a number that passes the test has a place
  pub placed : (p : ℕ → Bool) (a n l : ℕ) → a ≤ l → l < a + n → p l ≡ true → (i : ℕ) × (slice_get (map f (filter p (range_with_len a n))) i ≡ Some (f l))
  placed p a zero l low high is = absurd (omega (arith, low, high))
  placed p a (suc n) l low high is =
      let ls = filter p (range_with_len (a + 1) n) in
      elim (eqb_tells a l) [
        | inl same ↦ subst (λ k. (i : ℕ) × (slice_get (map f (cond (p a) (a ∷ ls) ls)) i ≡ Some (f k))) same.1 (here-step (p a) a ls (ap p same.1 ∙ is))
        | inr other ↦ later-step (p a) a ls (f l) (placed p (a + 1) n l (omega (arith, low, other.1)) (omega (arith, high)) is)
      ]

  -- what stands at a place is of a number that passes the test
  abbrev Found : (ℕ → Bool) → ℕ → ℕ → ListPlan → Type 0
  Found p a n x = (l : ℕ) × (a ≤ l) × (l < a + n) × (p l ≡ true) × (x ≡ f l)

  found-step : (p : ℕ → Bool) (b : Bool) (a n : ℕ) (ls : List ℕ) (i : ℕ) (x : ListPlan) → p a ≡ b
      → ((j : ℕ) → slice_get (map f ls) j ≡ Some x → Found p (a + 1) n x)
      → slice_get (map f (cond b (a ∷ ls) ls)) i ≡ Some x → Found p a (suc n) x
  found-step p true a n ls zero x is rest at = (a, omega arith, omega arith, is, cc)
  found-step p true a n ls (suc i) x is rest at = let r = rest i at in (r.0, omega (arith, r.1), omega (arith, r.2), r.3, r.4)
  found-step p false a n ls i x is rest at = let r = rest i at in (r.0, omega (arith, r.1), omega (arith, r.2), r.3, r.4)

  pub found : (p : ℕ → Bool) (a n i : ℕ) (x : ListPlan) → slice_get (map f (filter p (range_with_len a n))) i ≡ Some x → Found p a n x
  found p a zero i x at = absurd cc
  found p a (suc n) i x at = found-step p (p a) a n (filter p (range_with_len (a + 1) n)) i x refl (λ j. found p (a + 1) n j x) at

  module _ (numbered : (l : ℕ) → (f l).list ≡ l) where
    once-step : (b : Bool) (a : ℕ) (ls : List ℕ) (i j : ℕ) (x : ListPlan)
        → ((k : ℕ) → slice_get (map f ls) k ≡ Some x → a < x.list)
        → ((k m : ℕ) → slice_get (map f ls) k ≡ Some x → slice_get (map f ls) m ≡ Some x → k ≡ m)
        → slice_get (map f (cond b (a ∷ ls) ls)) i ≡ Some x → slice_get (map f (cond b (a ∷ ls) ls)) j ≡ Some x → i ≡ j
    once-step true a ls zero zero x later rest at_i at_j = refl
    once-step true a ls zero (suc j) x later rest at_i at_j =
        let is : f a ≡ x = cc in absurd (omega (arith, later j at_j, ap (λ (y : ListPlan). y.list) is, numbered a))
    once-step true a ls (suc i) zero x later rest at_i at_j =
        let is : f a ≡ x = cc in absurd (omega (arith, later i at_i, ap (λ (y : ListPlan). y.list) is, numbered a))
    once-step true a ls (suc i) (suc j) x later rest at_i at_j = ap suc (rest i j at_i at_j)
    once-step false a ls i j x later rest at_i at_j = rest i j at_i at_j

    -- each number has one place
    pub once : (p : ℕ → Bool) (a n i j : ℕ) (x : ListPlan)
        → slice_get (map f (filter p (range_with_len a n))) i ≡ Some x → slice_get (map f (filter p (range_with_len a n))) j ≡ Some x → i ≡ j
    once p a zero i j x at_i at_j = absurd cc
    once p a (suc n) i j x at_i at_j =
        let ls = filter p (range_with_len (a + 1) n) in
        let later : (k : ℕ) → slice_get (map f ls) k ≡ Some x → a < x.list = λ k at.
        let r = found p (a + 1) n k x at in
        omega (arith, r.1, ap (λ (y : ListPlan). y.list) r.4, numbered r.0) in
        once-step (p a) a ls i j x later (λ k m. once p (a + 1) n k m x) at_i at_j

both_true : (a b : Bool) → a ≡ true → b ≡ true → (a && b) ≡ true
both_true true b x y = y
both_true false b x y = absurd cc

first_true : (a b : Bool) → (a && b) ≡ true → a ≡ true
first_true true b h = refl
first_true false b h = absurd cc

module _ (s : StoreState) (named : (l : ℕ) → l < length s.lists → is_ready s.profile.segments (conf_of s l) ≡ true → channel_of (conf_of s l).mode < s.profile.channels)
    (past : ℕ → Past) (of_store : (c : ℕ) → c < s.profile.channels → IsOpeningOf s c (past c).opening) where
  abbrev ready : ℕ → Bool
  ready l = is_ready s.profile.segments (conf_of s l)

  -- each ready list is of one of the channels
  pub all_plans : AreAllPlans s.profile.channels past (plans_in s)
  all_plans = record {
    each = λ c k plan here at.
        let r = found (list_plan s) (is_ready_on s c) 0 (length s.lists) k plan (ap (λ ps. slice_get ps k) (sym (of_store c here).plans) ∙ at) in
        let is_ready_there = first_true (ready r.0) (nat_eq (channel_of (conf_of s r.0).mode) c) r.3 in
        subst (λ (x : ListPlan). (i : ℕ) × (slice_get (plans_in s) i ≡ Some x)) (sym r.4)
        (placed (list_plan s) ready 0 (length s.lists) r.0 r.1 r.2 is_ready_there);
    once = λ i j plan. once (list_plan s) (λ l. refl) ready 0 (length s.lists) i j plan;
    no_other = λ i plan at.
        let r = found (list_plan s) ready 0 (length s.lists) i plan at in
        let c = channel_of (conf_of s r.0).mode in
        let here : c < s.profile.channels = named r.0 (omega (arith, r.2)) r.3 in
        let on : is_ready_on s c r.0 ≡ true = both_true (ready r.0) (nat_eq c c) r.3 (eq-eqb c c refl) in
        let k = placed (list_plan s) (is_ready_on s c) 0 (length s.lists) r.0 r.1 r.2 on in
        (c, k.0, here, ap (λ ps. slice_get ps k.0) (of_store c here).plans ∙ (k.1 ∙ ap (λ x. Some x) (sym r.4)));
  }
