-- The place of the list that a packet is of, and the packets of each place.
use Rattle.std.proofs.Common.{◌≡◌, ◌≢◌, ℕ, zero, suc, ◌<◌, ◌==◌, ◌&&◌, inl, inr, ◌⊎◌, Bool, true, false, if◌then◌else◌, cond, length, List, [], ◌∷◌, Some, refl, sym, ap, ◌∙◌, arith}
use Rattle.std.specs.Prelude.{All, filter, nat_le, slice_get}
use Rattle.std.specs.List.{AllByRecursion}
use Rattle.std.proofs.lemmas.Bool.{false≢true}
use Rattle.std.proofs.lemmas.Bool.Decides.{nat_tests}
use Rattle.std.proofs.lemmas.List.Elements.{All-head, All-tail}
use Rattle.xcp_base.specs.Forms.{field_len}
use Rattle.copy_plan.specs.Config.{ListPlan}
use Rattle.daq_engine.specs.Filters.{is_of_plan, of_list}
use Rattle.daq_reader.specs.Lists.{is_of, of_place, place_in}

-- a packet is of one of the plans alone; of each other even its identification field says no
pub record IsOfOne (plans : List ListPlan) (q : List ℕ) : Type 0 where
  pub place : ℕ
  pub plan : ListPlan
  pub at : slice_get plans place ≡ Some plan
  pub is : is_of plan q ≡ true
  pub alone : (j : ℕ) (r : ListPlan) → slice_get plans j ≡ Some r → is_of_plan r q ≡ true → j ≡ place
  pub long : (j : ℕ) (r : ListPlan) → slice_get plans j ≡ Some r → is_of_plan r q ≡ true → is_of r q ≡ true

pub the_same : (a b : ListPlan) → Some a ≡ Some b → a ≡ b
the_same a b e = cc

pub by_truth : (b : Bool) → (b ≡ true) ⊎ (b ≡ false)
by_truth true = inl refl
by_truth false = inr refl

named : (a b : Bool) → (a && b) ≡ true → b ≡ true
named true b e = e
named false b e = absurd (false≢true e)

place_at :
    (plans : List ListPlan) (i : ℕ) (p : ListPlan) (q : List ℕ) → slice_get plans i ≡ Some p → is_of p q ≡ true
    → ((j : ℕ) (r : ListPlan) → slice_get plans j ≡ Some r → is_of r q ≡ true → j ≡ i) → place_in plans q ≡ i
place_at [] i p q at is alone = absurd cc
place_at (x ∷ xs) zero p q at is alone =
    ap (λ (b : Bool). if b then 0 else suc (place_in xs q)) (ap (λ (r : ListPlan). is_of r q) (the_same x p at) ∙ is)
place_at (x ∷ xs) (suc i) p q at is alone = elim (by_truth (is_of x q)) [
  | inl so ↦ absurd (omega (arith, alone zero x refl so))
  | inr off ↦
      ap (λ (b : Bool). if b then 0 else suc (place_in xs q)) off
      ∙ ap suc (place_at xs i p q at is (λ j r there so. omega (arith, alone (suc j) r there so)))
]

below : {X : Type 0} (xs : List X) (i : ℕ) (x : X) → slice_get xs i ≡ Some x → i < length xs
below [] i x at = absurd cc
below (y ∷ xs) zero x at = omega arith
below (y ∷ xs) (suc i) x at = omega (arith, below xs i x at)

-- its place is that of its plan
pub place-one : (plans : List ListPlan) (q : List ℕ) (o : IsOfOne plans q) → place_in plans q ≡ o.place
place-one plans q o =
    place_at plans o.place o.plan q o.at o.is (λ j r there so. o.alone j r there (named (nat_le (field_len r.form.id) (length q)) (is_of_plan r q) so))

pub place_known : (plans : List ListPlan) (q : List ℕ) → IsOfOne plans q → place_in plans q < length plans
place_known plans q o = omega (arith, place-one plans q o, below plans o.place o.plan o.at)

is_same : (a b : ℕ) → a ≡ b → (a == b) ≡ true
is_same a b h = grind (arith, nat_tests)

is_other : (a b : ℕ) → a ≢ b → (a == b) ≡ false
is_other a b h = grind (arith, nat_tests)

at_place : (plans : List ListPlan) (i : ℕ) (p : ListPlan) (q : List ℕ) → slice_get plans i ≡ Some p → IsOfOne plans q → (place_in plans q == i) ≡ is_of_plan p q
at_place plans i p q at o = elim (by_truth (is_of_plan p q)) [
  | inl so ↦ is_same (place_in plans q) i (place-one plans q o ∙ sym (o.alone i p at so)) ∙ sym so
  | inr off ↦
      is_other (place_in plans q) i (λ same.
      let here : o.plan ≡ p = the_same o.plan p (sym o.at ∙ ap (slice_get plans) (sym (place-one plans q o) ∙ same) ∙ at) in
      let so : is_of_plan p q ≡ true = ap (λ (r : ListPlan). is_of_plan r q) (sym here) ∙ named (nat_le (field_len o.plan.form.id) (length q)) (is_of_plan o.plan q) o.is in
      false≢true (sym off ∙ so)) ∙ sym off
]

filter_same : (f g : List ℕ → Bool) (qs : List (List ℕ)) → AllByRecursion (λ q. f q ≡ g q) qs → filter f qs ≡ filter g qs
filter_same f g [] h = refl
filter_same f g (q ∷ qs) h =
    ap (λ (b : Bool). cond b (q ∷ filter f qs) (filter f qs)) h.0 ∙ ap (λ xs. cond (g q) (q ∷ xs) xs) (filter_same f g qs h.1)

pub all-as : {X : Type 0} (P Q : X → Type 0) (xs : List X) → ((x : X) → P x → Q x) → AllByRecursion P xs → AllByRecursion Q xs
all-as P Q [] f h = tt
all-as P Q (x ∷ xs) f h = (f x h.0, all-as P Q xs f h.1)

-- the packets of a place are those that its plan's identification field names
pub of_place-of_list : (plans : List ListPlan) (i : ℕ) (p : ListPlan) (qs : List (List ℕ)) → slice_get plans i ≡ Some p → AllByRecursion (IsOfOne plans) qs → of_place plans i qs ≡ of_list p qs
of_place-of_list plans i p qs at all =
    filter_same (λ (q : List ℕ). place_in plans q == i) (is_of_plan p) qs
    (all-as (IsOfOne plans) (λ q. (place_in plans q == i) ≡ is_of_plan p q) qs (λ q o. at_place plans i p q at o) all)

head_of : {X : Type 0} (P : X → Type 0) (b : Bool) (x : X) (xs : List X) → b ≡ true → AllByRecursion P (cond b (x ∷ xs) xs) → P x
head_of P true x xs e h = h.0
head_of P false x xs e h = absurd (false≢true e)

tail_of : {X : Type 0} (P : X → Type 0) (b : Bool) (x : X) (xs : List X) → AllByRecursion P (cond b (x ∷ xs) xs) → AllByRecursion P xs
tail_of P true x xs h = h.1
tail_of P false x xs h = h

-- what holds of those that pass each test holds of all that pass one
pub all-sorted :
    (P : List ℕ → Type 0) (n : ℕ) (test : ℕ → List ℕ → Bool) (qs : List (List ℕ)) → All (λ (q : List ℕ). (c : ℕ) × (c < n) × (test c q ≡ true)) qs
    → ((c : ℕ) → c < n → AllByRecursion P (filter (test c) qs)) → AllByRecursion P qs
all-sorted P n test [] some each = tt
all-sorted P n test (q ∷ qs) some each =
    let one = All-head (λ (r : List ℕ). (c : ℕ) × (c < n) × (test c r ≡ true)) q qs some in (
      head_of P (test one.0 q) q (filter (test one.0) qs) one.2 (each one.0 one.1),
      all-sorted P n test qs (All-tail (λ (r : List ℕ). (c : ℕ) × (c < n) × (test c r ≡ true)) q qs some) (λ c here. tail_of P (test c q) q (filter (test c) qs) (each c here)),
    )

-- those of the packets that pass a narrower test are those that pass it among those that pass the wider
pub filter-filter : (f g : List ℕ → Bool) (qs : List (List ℕ)) → ((q : List ℕ) → f q ≡ true → g q ≡ true) → filter f (filter g qs) ≡ filter f qs
filter-filter f g [] h = refl
filter-filter f g (q ∷ qs) h = elim (by_truth (g q)) [
  | inl so ↦
      ap (λ (b : Bool). filter f (cond b (q ∷ filter g qs) (filter g qs))) so
      ∙ ap (λ xs. cond (f q) (q ∷ xs) xs) (filter-filter f g qs h)
  | inr off ↦
      ap (λ (b : Bool). filter f (cond b (q ∷ filter g qs) (filter g qs))) off
      ∙ filter-filter f g qs h
      ∙ ap (λ (b : Bool). cond b (q ∷ filter f qs) (filter f qs)) (sym (never (f q) (λ so. false≢true (sym off ∙ h q so))))
]
  where
    never : (b : Bool) → (b ≡ true → ⊥) → b ≡ false
    never true no_way = absurd (no_way refl)
    never false no_way = refl
