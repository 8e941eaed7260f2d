-- The packets of a sample among all that came.
use Rattle.std.proofs.Common.{◌≡◌, ℕ, zero, suc, ◌+◌, ◌++◌, ◌∷◌, [], List, length, refl, sym, ap, subst, ◌∙◌, arith, Bool, true, false, Option, Some, None}
use Rattle.std.proofs.Common.{◌||◌, ◌&&◌, if◌then◌else◌, ◌==◌}
use Rattle.std.proofs.lemmas.Bool.{eq-eqb, eqb-true}
use Rattle.std.proofs.lemmas.Bool.Decides.{nat_tests}
use Rattle.std.proofs.lemmas.List.{append_assoc, append-nil}
use Rattle.std.proofs.lemmas.Option.{same_Some}
use Rattle.captured_session.specs.Lists.{ListOf}
use Rattle.captured_samples.specs.Places.{fits, odt_in}
use Rattle.captured_samples.specs.Samples.{behind_at, under_way}
use Rattle.captured_samples.specs.Turns.{AreFrom, LastIsUnderWay, UnderWayInTurn, UnderWayIsLast, behind_gap, if_of_odt}

-- one packet more of the next ODT
from-push : (l : ListOf) (k : ℕ) (xs : List (List ℕ)) (p : List ℕ) → AreFrom l k xs
    → odt_in l p ≡ Some (k + length xs) → fits l (k + length xs) p ≡ true → AreFrom l k (xs ++ p ∷ [])
from-push l k [] p from odt fit =
    let none : k + 0 ≡ k = omega arith in
    (odt ∙ ap (λ (n : ℕ). Some n) none, ap (λ (n : ℕ). fits l n p) (sym none) ∙ fit, tt)
from-push l k (x ∷ xs) p from odt fit =
    let one : k + suc (length xs) ≡ k + 1 + length xs = omega arith in
    (from.0, from.1, from-push l (k + 1) xs p from.2 (odt ∙ ap (λ (n : ℕ). Some n) one) (ap (λ (n : ℕ). fits l n p) (sym one) ∙ fit))

-- by the tests that are made of a packet
turn-if : (l : ListOf) (before : List (List ℕ)) (p : List ℕ) (k : ℕ) (a b c : Bool) → fits l k p ≡ a → (k == 0) ≡ b
    → (k == length before) ≡ c → odt_in l p ≡ Some k → AreFrom l 0 before
    → AreFrom l 0 (if a && (b || c) then (if b then [] else before) ++ p ∷ [] else [])
turn-if l before p k false b c fit first next odt from = tt
turn-if l before p k true true c fit first next odt from =
    let none : k ≡ 0 = eqb-true k 0 first in
    (odt ∙ ap (λ (n : ℕ). Some n) none, ap (λ (n : ℕ). fits l n p) (sym none) ∙ fit, tt)
turn-if l before p k true false false fit first next odt from = tt
turn-if l before p k true false true fit first next odt from =
    let is : k ≡ 0 + length before = eqb-true k (length before) next ∙ omega arith in
    from-push l 0 before p from (odt ∙ ap (λ (n : ℕ). Some n) is) (ap (λ (n : ℕ). fits l n p) (sym is) ∙ fit)

turn-behind : (l : ListOf) (before : List (List ℕ)) (p : List ℕ) (o : Option ℕ) → odt_in l p ≡ o → AreFrom l 0 before
    → AreFrom l 0 (behind_at l before p o)
turn-behind l before p None odt from = from
turn-behind l before p (Some k) odt from =
    turn-if l before p k (fits l k p) (k == 0) (k == length before) refl refl refl odt from

pub under_way_in_turn : UnderWayInTurn
under_way_in_turn l [] = tt
under_way_in_turn l (None ∷ before) = tt
under_way_in_turn l (Some p ∷ before) =
    turn-behind l (under_way l before) p (odt_in l p) refl (under_way_in_turn l before)

-- the last ones of some
abbrev IsBack : List (List ℕ) → List (List ℕ) → Type 0
IsBack xs all = (front : List (List ℕ)) × (front ++ xs ≡ all)

last-if : (before all : List (List ℕ)) (p : List ℕ) (a b : Bool) → IsBack before all
    → IsBack (if a then (if b then [] else before) ++ p ∷ [] else []) (all ++ p ∷ [])
last-if before all p false b back = (all ++ p ∷ [], append-nil (all ++ p ∷ []))
last-if before all p true true back = (all, refl)
last-if before all p true false (front, back) =
    (front, sym (append_assoc front before (p ∷ [])) ∙ ap (λ (xs : List (List ℕ)). xs ++ p ∷ []) back)

last-behind : (l : ListOf) (before all : List (List ℕ)) (p : List ℕ) (o : Option ℕ) → IsBack before all
    → IsBack (behind_at l before p o) (all ++ if_of_odt p o)
last-behind l before all p None (front, back) = (front, back ∙ sym (append-nil all))
last-behind l before all p (Some k) back =
    last-if before all p (fits l k p && (k == 0 || k == length before)) (k == 0) back

pub under_way_is_last : UnderWayIsLast
under_way_is_last l [] = ([], refl)
under_way_is_last l (None ∷ before) = ([], refl)
under_way_is_last l (Some p ∷ before) =
    last-behind l (under_way l before) (behind_gap l before) p (odt_in l p) (under_way_is_last l before)

-- what stands in front of the last one
record HasLast (front all : List (List ℕ)) (xs : List (List ℕ)) (p : List ℕ) : Type 0 where
  earlier : List (List ℕ)
  is : xs ≡ earlier ++ p ∷ []
  others : front ++ earlier ≡ all

some-none : (front xs : List (List ℕ)) (x : List ℕ) → front ++ x ∷ xs ≡ [] → ⊥
some-none [] xs x e = absurd cc
some-none (y ∷ front) xs x e = absurd cc

has_last : (front all xs : List (List ℕ)) (x p : List ℕ) → front ++ x ∷ xs ≡ all ++ p ∷ [] → HasLast front all (x ∷ xs) p
has_last [] all xs x p e = record { earlier = all; is = e; others = refl }
has_last (y ∷ front) [] xs x p e =
    let more : front ++ x ∷ xs ≡ [] = cc in
    absurd (some-none front xs x more)
has_last (y ∷ front) (z ∷ all) xs x p e =
    let more : front ++ x ∷ xs ≡ all ++ p ∷ [] = cc in
    let same : y ≡ z = cc in
    let last = has_last front all xs x p more in
    record { earlier = last.earlier; is = last.is; others = ap (λ (ys : List (List ℕ)). y ∷ ys) last.others ∙ ap (λ (w : List ℕ). w ∷ all) same }

-- of packets from an ODT on, those before the last, and the last
record LastFrom (l : ListOf) (k : ℕ) (xs : List (List ℕ)) (p : List ℕ) : Type 0 where
  earlier : AreFrom l k xs
  odt : odt_in l p ≡ Some (k + length xs)
  fit : fits l (k + length xs) p ≡ true

from-last : (l : ListOf) (k : ℕ) (xs : List (List ℕ)) (p : List ℕ) → AreFrom l k (xs ++ p ∷ []) → LastFrom l k xs p
from-last l k [] p from =
    let none : k ≡ k + 0 = omega arith in
    record { earlier = tt; odt = from.0 ∙ ap (λ (n : ℕ). Some n) none; fit = ap (λ (n : ℕ). fits l n p) (sym none) ∙ from.1 }
from-last l k (x ∷ xs) p from =
    let one : k + 1 + length xs ≡ k + suc (length xs) = omega arith in
    let last = from-last l (k + 1) xs p from.2 in
    record { earlier = (from.0, from.1, last.earlier); odt = last.odt ∙ ap (λ (n : ℕ). Some n) one; fit = ap (λ (n : ℕ). fits l n p) (sym one) ∙ last.fit }

-- by the tests that are made of a packet
begins-if : (before : List (List ℕ)) (p : List ℕ) (a b c : Bool) → a ≡ true → b ≡ true
    → (if a && (b || c) then (if b then [] else before) ++ p ∷ [] else []) ≡ p ∷ []
begins-if before p true true c fit first = refl
begins-if before p false b c fit first = absurd cc
begins-if before p true false c fit first = absurd cc

goes_on-if : (before : List (List ℕ)) (p : List ℕ) (a b c : Bool) → a ≡ true → b ≡ false → c ≡ true
    → (if a && (b || c) then (if b then [] else before) ++ p ∷ [] else []) ≡ before ++ p ∷ []
goes_on-if before p true false true fit first next = refl
goes_on-if before p true false false fit first next = absurd cc
goes_on-if before p true true c fit first next = absurd cc
goes_on-if before p false b c fit first next = absurd cc

not-first : (k : ℕ) → (suc k == 0) ≡ false
not-first k = grind (arith, nat_tests)

-- behind those that came earlier
last-turn : (l : ListOf) (before earlier : List (List ℕ)) (p : List ℕ) (k : ℕ) → k ≡ length earlier → fits l k p ≡ true
    → ((x : List ℕ) (xs : List (List ℕ)) → earlier ≡ x ∷ xs → before ≡ earlier)
    → behind_at l before p (Some k) ≡ earlier ++ p ∷ []
last-turn l before [] p k is fit stands =
    begins-if before p (fits l k p) (k == 0) (k == length before) fit (eq-eqb k 0 is)
last-turn l before (x ∷ xs) p zero is fit stands = absurd (omega (arith, is))
last-turn l before (x ∷ xs) p (suc k) is fit stands =
    let same : before ≡ x ∷ xs = stands x xs refl in
    let next : suc k ≡ length before = is ∙ ap (λ (ys : List (List ℕ)). length ys) (sym same) in
    goes_on-if before p (fits l (suc k) p) (suc k == 0) (suc k == length before) fit (not-first k) (eq-eqb (suc k) (length before) next)
    ∙ ap (λ (ys : List (List ℕ)). ys ++ p ∷ []) same

-- of some packets of the list the last ones, if they are in turn
abbrev AreFound : ListOf → List (List ℕ) → List (List ℕ) → Type 0
AreFound l before all =
    (front xs : List (List ℕ)) (x : List ℕ) → AreFrom l 0 (x ∷ xs) → front ++ x ∷ xs ≡ all → before ≡ x ∷ xs

found-behind : (l : ListOf) (before all : List (List ℕ)) (p : List ℕ) (o : Option ℕ) → odt_in l p ≡ o → AreFound l before all
    → AreFound l (behind_at l before p o) (all ++ if_of_odt p o)
found-behind l before all p None odt found front xs x from e = found front xs x from (e ∙ append-nil all)
found-behind l before all p (Some k) odt found front xs x from e =
    let split = has_last front all xs x p e in
    let last = from-last l 0 split.earlier p (subst (AreFrom l 0) split.is from) in
    let k_is : k ≡ 0 + length split.earlier = same_Some k (0 + length split.earlier) (sym odt ∙ last.odt) in
    let is : k ≡ length split.earlier = omega (arith, k_is) in
    let fit : fits l k p ≡ true = ap (λ (n : ℕ). fits l n p) k_is ∙ last.fit in
    let stands : (y : List ℕ) (ys : List (List ℕ)) → split.earlier ≡ y ∷ ys → before ≡ split.earlier =
    λ y ys some. found front ys y (subst (AreFrom l 0) some last.earlier)
    (ap (λ (zs : List (List ℕ)). front ++ zs) (sym some) ∙ split.others) ∙ sym some in
    last-turn l before split.earlier p k is fit stands ∙ sym split.is

found_in : (l : ListOf) (h : List (Option (List ℕ))) → AreFound l (under_way l h) (behind_gap l h)
found_in l [] front xs x from e = absurd (some-none front xs x e)
found_in l (None ∷ before) front xs x from e = absurd (some-none front xs x e)
found_in l (Some p ∷ before) front xs x from e =
    found-behind l (under_way l before) (behind_gap l before) p (odt_in l p) refl (found_in l before) front xs x from e

pub last_is_under_way : LastIsUnderWay
last_is_under_way l h front later packet from e = found_in l h front later packet from e
