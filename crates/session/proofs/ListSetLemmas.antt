-- Sets of DAQ lists, list by list.
use Rattle.std.proofs.Common.{inl, inr, ◌≡◌, ℕ, ◌+◌, Bool, true, false, ◌&&◌, ◌||◌, nat_eq, nat_lt, sym, refl, ap, ◌∙◌, arith}
use Rattle.std.proofs.lemmas.Bool.Decides.{eqb_tells, nat_tests}
use Rattle.std.proofs.lemmas.Nat.Bits.{bit_at-zero}
use Rattle.xcp_base.specs.Lists.{has_list}

-- the set has those of the lists below n that pass the test
abbrev pub HasBelow : ℕ → ℕ → (ℕ → Bool) → Type 0
HasBelow set n test = (k : ℕ) → has_list set k ≡ (nat_lt k n && test k)

-- the empty set has no list
pub empty_has_none : (k : ℕ) → has_list 0 k ≡ false
empty_has_none k = ap (λ n. nat_eq n 1) (bit_at-zero k)

-- so has a set that is empty
pub zero_has_none : (set k : ℕ) → set ≡ 0 → has_list set k ≡ false
zero_has_none set k is = ap (λ n. has_list n k) is ∙ empty_has_none k

-- a list is the one that is added, and another
added_here : (a f : Bool) → ((a && f) || (f && true)) ≡ f
added_here true true = refl
added_here true false = refl
added_here false true = refl
added_here false false = refl

added_other : (a f g : Bool) → ((a && f) || (g && false)) ≡ (a && f)
added_other true true true = refl
added_other true true false = refl
added_other true false true = refl
added_other true false false = refl
added_other false f true = refl
added_other false f false = refl

-- list n is added if it passes the test
pub below-next : (old new n : ℕ) (test : ℕ → Bool) (wanted : Bool) → wanted ≡ test n → HasBelow old n test
    → ((k : ℕ) → has_list new k ≡ (has_list old k || (wanted && nat_eq n k))) → HasBelow new (n + 1) test
below-next old new n test wanted is was with_one = λ k.
    with_one k
    ∙ ap (λ b. b || (wanted && nat_eq n k)) (was k)
    ∙ ap (λ b. (nat_lt k n && test k) || (b && nat_eq n k)) is
    ∙ elim (eqb_tells n k) [
      | inl here ↦
          let under : nat_lt k (n + 1) ≡ true = grind (arith, nat_tests, here.1) in
          ap (λ b. (nat_lt k n && test k) || (test n && b)) here.0
          ∙ ap (λ j. (nat_lt k n && test k) || (test j && true)) here.1
          ∙ added_here (nat_lt k n) (test k)
          ∙ sym (ap (λ b. b && test k) under)
      | inr other ↦
          let same : nat_lt k n ≡ nat_lt k (n + 1) = grind (arith, nat_tests, other.1) in
          ap (λ b. (nat_lt k n && test k) || (test n && b)) other.0
          ∙ added_other (nat_lt k n) (test k) (test n)
          ∙ ap (λ b. b && test k) same
    ]
