-- Two accounts of the same run have the same lines.
use Rattle.std.proofs.Common.{◌≡◌, ◌⊎◌, ℕ, zero, suc, ◌+◌, ◌<◌, ◌≤◌, inl, inr, All, Any, true, List, [], ◌∷◌, length, get_or, refl, sym, ap, ap₂, subst, ◌∙◌, arith, nat_eq}
use Rattle.std.specs.Prelude.{slice_get, Option, Some}
use Rattle.std.proofs.lemmas.Bool.Decides.{nat_tests}
use Rattle.std.proofs.lemmas.List.Elements.{All-head, All-tail}
use Rattle.std.proofs.lemmas.List.Folds.{Any-from_list_any}
use Rattle.std.proofs.lemmas.Option.{slice_get-get_or}
use Rattle.xcp_base.specs.Samples.{SampleParts}
use Rattle.xcp_base.specs.declared.item.Item.{Item}
use Rattle.copy_plan.specs.Config.{ListPlan}
use Rattle.sampler.specs.History.{Opening, is_list_of}
use Rattle.sampler.specs.Past.{Past}
use Rattle.daq_engine.specs.Account.{AreRisingLines, IsLineOf, IsLineOfSome}
use Rattle.daq_engine.specs.declared.report.ListReport.{ListReport}

-- the line is one of these
abbrev pub IsIn : ListReport → List ListReport → Type 0
IsIn line [] = ⊥
IsIn line (x ∷ xs) = (line ≡ x) ⊎ IsIn line xs

some_in : (P : ListReport → Type 0) (xs : List ListReport) (k : ℕ) (x : ListReport) → k < length xs → get_or xs k x ≡ x → P x → (line : ListReport) × IsIn line xs × P line
some_in P [] k x within is holds = absurd (omega (arith, within))
some_in P (y ∷ xs) zero x within is holds = (y, inl refl, subst P (sym is) holds)
some_in P (y ∷ xs) (suc k) x within is holds =
    let later = some_in P xs k x (omega (arith, within)) is holds in
    (later.0, inr later.1, later.2)

all_in : (P : ListReport → Type 0) (xs : List ListReport) (x : ListReport) → All P xs → IsIn x xs → P x
all_in P [] x all is = absurd is
all_in P (y ∷ xs) x all (inl is) = subst P (sym is) (All-head P y xs all)
all_in P (y ∷ xs) x all (inr is) = all_in P xs x (All-tail P y xs all) is

-- rising lines: none is below, and none comes twice
at_least : (least : ℕ) (xs : List ListReport) (x : ListReport) → AreRisingLines least xs → IsIn x xs → least ≤ x.list
at_least least [] x rising is = absurd is
at_least least (y ∷ xs) x rising (inl is) = omega (arith, rising.0, ap (λ (z : ListReport). z.list) is)
at_least least (y ∷ xs) x rising (inr is) = omega (arith, rising.0, at_least (y.list + 1) xs x rising.1 is)

one_line : (least : ℕ) (xs : List ListReport) (x y : ListReport) → AreRisingLines least xs → IsIn x xs → IsIn y xs → x.list ≡ y.list → x ≡ y
one_line least [] x y rising a b same = absurd a
one_line least (z ∷ xs) x y rising (inl a) (inl b) same = a ∙ sym b
one_line least (z ∷ xs) x y rising (inl a) (inr b) same = absurd (omega (arith, ap (λ (w : ListReport). w.list) a, at_least (z.list + 1) xs y rising.1 b, same))
one_line least (z ∷ xs) x y rising (inr a) (inl b) same = absurd (omega (arith, ap (λ (w : ListReport). w.list) b, at_least (z.list + 1) xs x rising.1 a, same))
one_line least (z ∷ xs) x y rising (inr a) (inr b) same = one_line (z.list + 1) xs x y rising.1 a b same

heads : (x y : ListReport) (xs ys : List ListReport) → AreRisingLines (x.list + 1) xs → AreRisingLines (y.list + 1) ys → (x ≡ y) ⊎ IsIn x ys → (y ≡ x) ⊎ IsIn y xs → x ≡ y
heads x y xs ys a b (inl w) v = w
heads x y xs ys a b (inr w) (inl v) = sym v
heads x y xs ys a b (inr w) (inr v) = absurd (omega (arith, at_least (y.list + 1) ys x b w, at_least (x.list + 1) xs y a v))

-- where the lines of each are lines of the other, they are the same
same_rising : (least other : ℕ) (xs ys : List ListReport) → AreRisingLines least xs → AreRisingLines other ys
    → ((x : ListReport) → IsIn x xs → IsIn x ys) → ((y : ListReport) → IsIn y ys → IsIn y xs) → xs ≡ ys
same_rising least other [] [] a b to from = refl
same_rising least other [] (y ∷ ys) a b to from = absurd (from y (inl refl))
same_rising least other (x ∷ xs) [] a b to from = absurd (to x (inl refl))
same_rising least other (x ∷ xs) (y ∷ ys) a b to from =
    let one : x ≡ y = heads x y xs ys a.1 b.1 (to x (inl refl)) (from y (inl refl)) in
    let name : x.list ≡ y.list = ap (λ (w : ListReport). w.list) one in
    ap₂ (λ z zs. z ∷ zs) one (same_rising (x.list + 1) (y.list + 1) xs ys a.1 b.1
    (λ z is. elim (to z (inr is)) [
      | inl w ↦ absurd (omega (arith, at_least (x.list + 1) xs z a.1 is, name, ap (λ (v : ListReport). v.list) w))
      | inr w ↦ w
    ])
    (λ z is. elim (from z (inr is)) [
      | inl w ↦ absurd (omega (arith, at_least (y.list + 1) ys z b.1 is, name, ap (λ (v : ListReport). v.list) w))
      | inr w ↦ w
    ]))

-- a line is determined by what it is of
line_same : (past : Past) (plan : ListPlan) (qs rs : List (List ℕ)) (sent received : List Item) (hand : Option SampleParts) (x y : ListReport)
    → IsLineOf past plan qs sent received hand x → IsLineOf past plan rs sent received hand y → x ≡ y
line_same past plan qs rs sent received hand x y a b =
    let list : x.list ≡ y.list = a.of_plan ∙ sym b.of_plan in
    let due : x.due ≡ y.due = a.due ∙ sym b.due in
    let dropped : x.dropped ≡ y.dropped = a.dropped ∙ sym b.dropped in
    let left : x.left ≡ y.left = a.left ∙ sym b.left in
    let written : x.written ≡ y.written = omega (arith, a.adds_up, b.adds_up, due, dropped, left) in
    ap (λ (k : ℕ). record { list = k; due = x.due; written = x.written; dropped = x.dropped; left = x.left }) list
    ∙ (ap₂ (λ (k m : ℕ). record { list = y.list; due = k; written = m; dropped = x.dropped; left = x.left }) due written
    ∙ ap₂ (λ (k m : ℕ). record { list = y.list; due = y.due; written = y.written; dropped = k; left = m }) dropped left)

-- a list of a channel has a plan
plan_there : (o : Opening) (l : ℕ) → is_list_of o l ≡ true → (i : ℕ) × (plan : ListPlan) × (slice_get o.plans i ≡ Some plan) × (plan.list ≡ l)
plan_there o l is =
    let found = Any-from_list_any (λ (plan : ListPlan). nat_eq plan.list l) o.plans is in
    let test : nat_eq (found.1).list l ≡ true = found.4 in
    let name : (found.1).list ≡ l = grind (arith, nat_tests) in
    (found.0, found.1, slice_get-get_or o.plans found.0 found.1 found.2 ∙ ap (λ (p : ListPlan). Some p) found.3, name)

-- two accounts whose lines are of the lists of the same channels, line by line of the same
module _ (n : ℕ) (past other : ℕ → Past) (pasts : (c : ℕ) → c < n → past c ≡ other c) (xs ys : List ListReport) (qs rs : List (List ℕ))
    (sent received : ℕ → List Item) (hand : Option SampleParts)
    (rising : AreRisingLines 0 xs) (rises : AreRisingLines 0 ys) (no_other : All (IsLineOfSome n past) xs)
    (each : (c i : ℕ) (plan : ListPlan) → c < n → slice_get (past c).opening.plans i ≡ Some plan → Any (IsLineOf (past c) plan qs (sent c) (received c) hand) xs)
    (all : (c i : ℕ) (plan : ListPlan) → c < n → slice_get (other c).opening.plans i ≡ Some plan → Any (IsLineOf (other c) plan rs (sent c) (received c) hand) ys) where
  pub line_there : (x : ListReport) → IsIn x xs → IsIn x ys
  line_there x is =
      let some : IsLineOfSome n past x = all_in (IsLineOfSome n past) xs x no_other is in
      let c = some.0 in
      let same : past c ≡ other c = pasts c some.1 in
      let p = plan_there (past c).opening x.list some.2 in
      let a = each c p.0 p.1 some.1 p.2 in
      let here = some_in (IsLineOf (past c) p.1 qs (sent c) (received c) hand) xs a.0 a.1 a.2 a.3 a.4 in
      let b = all c p.0 p.1 some.1 (ap (λ (q : Past). slice_get q.opening.plans p.0) (sym same) ∙ p.2) in
      let there = some_in (IsLineOf (other c) p.1 rs (sent c) (received c) hand) ys b.0 b.1 b.2 b.3 b.4 in
      let own : x ≡ here.0 = one_line 0 xs x here.0 rising is here.1 (sym (here.2.of_plan ∙ p.3)) in
      let line = line_same (past c) p.1 qs rs (sent c) (received c) hand here.0 there.0 here.2 (subst (λ (q : Past). IsLineOf q p.1 rs (sent c) (received c) hand there.0) (sym same) there.2) in
      subst (λ z. IsIn z ys) (sym (own ∙ line)) there.1

pub same_lines : (xs ys : List ListReport) → AreRisingLines 0 xs → AreRisingLines 0 ys → ((x : ListReport) → IsIn x xs → IsIn x ys) → ((y : ListReport) → IsIn y ys → IsIn y xs) → xs ≡ ys
same_lines xs ys = same_rising 0 0 xs ys
