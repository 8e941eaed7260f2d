-- What is taken in rising order is the front of a round.
use Rattle.std.proofs.Common.{◌≡◌, ◌≢◌, ℕ, zero, suc, ◌+◌, ◌-◌, ◌<◌, List, [], ◌∷◌, ◌++◌, length, refl, sym, ap, ◌∙◌, subst, arith, append_assoc, append-nil, inl, inr}
use mathlib.Core.List.{IsPrefix}
use Rattle.std.proofs.lemmas.Bool.Decides.{eqb_tells}
use Rattle.xcp_base.specs.declared.item.Item.{Item}
use Rattle.transmitter.specs.Merge.{AreRising, of_ring, taken_from}
use Rattle.transmitter.specs.Rounds.{round, rounds, without_first}
use Rattle.transmitter.proofs.TakenLemmas.{none_below, none_first, some_first}

-- where nothing is of the lowest ring, all are above it
above_lowest : (low : ℕ) (qs : List (ℕ × Item)) → AreRising low qs → taken_from low qs ≡ [] → AreRising (low + 1) qs
above_lowest low [] r none = tt
above_lowest low ((c, x) ∷ qs) r none = elim (eqb_tells c low) [
  | inl w ↦
      let some = subst (λ e. taken_from e ((c, x) ∷ qs) ≡ x ∷ taken_from e qs) w.1 (some_first c x qs) in
      absurd (omega (arith, ap length (sym none ∙ some)))
  | inr w ↦ (omega (arith, r.0, w.1), r.1)
]

prefix_of_none : (xs : List Item) → IsPrefix xs [] → xs ≡ []
prefix_of_none [] p = refl
prefix_of_none (x ∷ xs) p = absurd (omega (arith, ap length p.1))

next : (low j : ℕ) → low + 1 + j ≡ low + suc j
next low j = omega arith

-- what was taken of each ring begins what was known of it, and of each ring below one of which something was taken,
-- something was taken if it was known
pub record IsFront (low : ℕ) (known : List (List Item)) (qs : List (ℕ × Item)) : Type 0 where
  pub rising : AreRising low qs
  pub first : (j : ℕ) → IsPrefix (taken_from (low + j) qs) (of_ring known j)
  pub below : (i j : ℕ) → i < j → 0 < length (taken_from (low + j) qs) → 0 < length (of_ring known i) → 0 < length (taken_from (low + i) qs)

-- of each ring of which something is known, something was taken
abbrev pub IsAll : ℕ → List (List Item) → List (ℕ × Item) → Type 0
IsAll low known qs = (j : ℕ) → 0 < length (of_ring known j) → 0 < length (taken_from (low + j) qs)

-- the items are the front of a round; where something was taken of each ring that had something, they are all of it
abbrev pub BeginsRound : ℕ → List (List Item) → List (ℕ × Item) → Type 0
BeginsRound low known qs = (zs : List (ℕ × Item)) × (qs ++ zs ≡ round low known) × (IsAll low known qs → zs ≡ [])

-- no ring is left
front_of_none : (low : ℕ) (qs : List (ℕ × Item)) → IsFront low [] qs → BeginsRound low [] qs
front_of_none low [] f = ([], refl, λ _. refl)
front_of_none low ((c, x) ∷ qs) f =
    let at : low + (c - low) ≡ c = omega (arith, f.rising.0) in
    let none = prefix_of_none _ (f.first (c - low)) in
    let some = subst (λ e. taken_from e ((c, x) ∷ qs) ≡ []) at none in
    absurd (omega (arith, ap length (sym (some_first c x qs) ∙ some)))

-- the lowest ring has nothing
front_of_empty : (low : ℕ) (known : List (List Item)) (qs : List (ℕ × Item)) → IsFront low ([] ∷ known) qs → IsFront (low + 1) known qs
front_of_empty low known qs f =
    let zero_at : low + 0 ≡ low = omega arith in
    let none = rw zero_at at (prefix_of_none _ (f.first 0)) in
    record {
      rising = above_lowest low qs f.rising none;
      first = λ j. rw (next low j) (f.first (suc j));
      below = λ i j h s k. rw (next low i) (f.below (suc i) (suc j) (omega (arith, h)) (rw (next low j) at s) k);
    }

head_of : (x y : Item) (xs ys : List Item) → IsPrefix (y ∷ ys) (x ∷ xs) → (y ≡ x) × IsPrefix ys xs
head_of x y xs ys p = (cc (p.1), (p.0, cc (p.1)))

-- the lowest ring has an item, and that was taken first
front_of_some : (low : ℕ) (x : Item) (xs : List Item) (known : List (List Item)) (y : Item) (qs : List (ℕ × Item)) → IsFront low ((x ∷ xs) ∷ known) ((low, y) ∷ qs) → IsFront (low + 1) known qs
front_of_some low x xs known y qs f =
    let gone = λ (j : ℕ). none_first low (low + 1 + j) y qs (omega arith) in
    record {
      rising = f.rising.1;
      first = λ j. subst (λ ys. IsPrefix ys (of_ring known j)) (ap (λ e. taken_from e ((low, y) ∷ qs)) (sym (next low j)) ∙ gone j) (f.first (suc j));
      below = λ i j h s k.
          let more = f.below (suc i) (suc j) (omega (arith, h)) (subst (λ ys. 0 < length ys) (sym (gone j) ∙ ap (λ e. taken_from e ((low, y) ∷ qs)) (next low j)) s) k in
          subst (λ ys. 0 < length ys) (ap (λ e. taken_from e ((low, y) ∷ qs)) (sym (next low i)) ∙ gone i) more;
    }

-- that item is the first
first_taken : (low : ℕ) (x : Item) (xs : List Item) (known : List (List Item)) (y : Item) (qs : List (ℕ × Item)) → IsFront low ((x ∷ xs) ∷ known) ((low, y) ∷ qs) → y ≡ x
first_taken low x xs known y qs f =
    let zero_at : low + 0 ≡ low = omega arith in
    let p = subst (λ ys. IsPrefix ys (x ∷ xs)) (ap (λ e. taken_from e ((low, y) ∷ qs)) zero_at ∙ some_first low y qs) (f.first 0) in
    (head_of x y xs (taken_from low qs) p).0

-- it was taken, since something of a ring above it was
not_above : (low : ℕ) (x : Item) (xs : List Item) (known : List (List Item)) (c : ℕ) (y : Item) (qs : List (ℕ × Item)) → IsFront low ((x ∷ xs) ∷ known) ((c, y) ∷ qs) → c ≢ low → ⊥
not_above low x xs known c y qs f n =
    let above : low < c = omega (arith, f.rising.0, n) in
    let at : low + (c - low) ≡ c = omega (arith, above) in
    let zero_at : low + 0 ≡ low = omega arith in
    let some = subst (λ e. 0 < length (taken_from e ((c, y) ∷ qs))) (sym at) (subst (λ ys. 0 < length ys) (sym (some_first c y qs)) (omega arith)) in
    let lowest = subst (λ e. 0 < length (taken_from e ((c, y) ∷ qs))) zero_at (f.below 0 (c - low) (omega (arith, above)) some (omega arith)) in
    let none = none_below c low ((c, y) ∷ qs) (omega arith, f.rising.1) above in
    omega (arith, subst (λ ys. 0 < length ys) none lowest)

-- what is the front of a round begins it
pub front_begins : (low : ℕ) (known : List (List Item)) (qs : List (ℕ × Item)) → IsFront low known qs → BeginsRound low known qs
front_begins low [] qs f = front_of_none low qs f
front_begins low ([] ∷ known) qs f =
    let r = front_begins (low + 1) known qs (front_of_empty low known qs f) in
    (r.0, r.1, λ all. r.2 (λ j k. subst (λ e. 0 < length (taken_from e qs)) (sym (next low j)) (all (suc j) k)))
front_begins low ((x ∷ xs) ∷ known) [] f = (round low ((x ∷ xs) ∷ known), refl, λ all. absurd (omega (arith, all 0 (omega arith))))
front_begins low ((x ∷ xs) ∷ known) ((c, y) ∷ qs) f = elim (eqb_tells c low) [
  | inl w ↦
      let g = subst (λ e. IsFront low ((x ∷ xs) ∷ known) ((e, y) ∷ qs)) w.1 f in
      let r = front_begins (low + 1) known qs (front_of_some low x xs known y qs g) in
      let at : c ≡ low = w.1 in
      let pair : ◌≡◌ {A = ℕ × Item} (c, y) (low, x) = ap (λ e. (e, y)) w.1 ∙ ap (λ z. (low, z)) (first_taken low x xs known y qs g) in
      (r.0, ap (λ p. p ∷ (qs ++ r.0)) pair ∙ ap (λ ps. (low, x) ∷ ps) r.1, λ all. r.2 (λ j k. subst (λ ys. 0 < length ys) (ap (λ e. taken_from e ((c, y) ∷ qs)) (sym (next low j)) ∙ none_first c (low + 1 + j) y qs (omega (arith, at))) (all (suc j) k)))
  | inr w ↦ absurd (not_above low x xs known c y qs f w.1)
]

-- the lists after so many rounds
abbrev pub after_rounds : ℕ → List (List Item) → List (List Item)
after_rounds zero lists = lists
after_rounds (suc n) lists = after_rounds n (without_first lists)

pub after_rounds-suc : (n : ℕ) (lists : List (List Item)) → after_rounds (suc n) lists ≡ without_first (after_rounds n lists)
after_rounds-suc zero lists = refl
after_rounds-suc (suc n) lists = after_rounds-suc n (without_first lists)

-- one round more
pub rounds-suc : (n : ℕ) (lists : List (List Item)) → rounds (suc n) lists ≡ rounds n lists ++ round 0 (after_rounds n lists)
rounds-suc zero lists = append-nil (round 0 lists)
rounds-suc (suc n) lists = ap (λ ps. round 0 lists ++ ps) (rounds-suc n (without_first lists)) ∙ sym (append_assoc (round 0 lists) (rounds n (without_first lists)) (round 0 (after_rounds n (without_first lists))))
