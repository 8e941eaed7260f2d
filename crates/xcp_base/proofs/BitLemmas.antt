-- Bits of numbers that stand for sets.
use Rattle.std.proofs.Common.{◌≡◌, ◌≢◌, ℕ, zero, suc, ◌-◌, ◌*◌, ◌/◌, ◌%◌, ◌^◌, ◌<◌, min, max, Bool, true, false, ◌&&◌, ◌||◌, not, nat_eq, bit_and, bit_or, w16, refl, sym, ap, ◌∙◌, inl, inr, arith}
use Rattle.std.specs.Int.{bit_at, bit_not}
use Rattle.std.proofs.lemmas.Nat.Bits.{bit_at-lt, bit_at-suc, bit_at_and, bit_at_clear_other, bit_at_clear_same, bit_at_lowest, bit_at_not, bit_at_or}
use Rattle.std.proofs.lemmas.Bool.{false≢true}
use Rattle.std.proofs.lemmas.Bool.Decides.{eqb_tells}
use Rattle.xcp_base.specs.Lists.{has_list}

both-bits : (a b : ℕ) → a < 2 → b < 2 → nat_eq (min a b) 1 ≡ (nat_eq a 1 && nat_eq b 1)
both-bits zero zero x y = refl
both-bits zero (suc zero) x y = refl
both-bits (suc zero) zero x y = refl
both-bits (suc zero) (suc zero) x y = refl
both-bits (suc (suc a)) b x y = absurd (omega (arith, x))
both-bits zero (suc (suc b)) x y = absurd (omega (arith, y))
both-bits (suc zero) (suc (suc b)) x y = absurd (omega (arith, y))

one-of-bits : (a b : ℕ) → a < 2 → b < 2 → nat_eq (max a b) 1 ≡ (nat_eq a 1 || nat_eq b 1)
one-of-bits zero zero x y = refl
one-of-bits zero (suc zero) x y = refl
one-of-bits (suc zero) zero x y = refl
one-of-bits (suc zero) (suc zero) x y = refl
one-of-bits (suc (suc a)) b x y = absurd (omega (arith, x))
one-of-bits zero (suc (suc b)) x y = absurd (omega (arith, y))
one-of-bits (suc zero) (suc (suc b)) x y = absurd (omega (arith, y))

other-bit : (b : ℕ) → b < 2 → nat_eq (1 - b) 1 ≡ not (nat_eq b 1)
other-bit zero y = refl
other-bit (suc zero) y = refl
other-bit (suc (suc b)) y = absurd (omega (arith, y))

and_true : (b : Bool) → b ≡ (b && true)
and_true true = refl
and_true false = refl

and_false : (b : Bool) → false ≡ (b && false)
and_false true = refl
and_false false = refl

pub has-union : (a b k : ℕ) → has_list (bit_or a b) k ≡ (has_list a k || has_list b k)
has-union a b k =
    ap (λ n. nat_eq n 1) (bit_at_or a b k) ∙ one-of-bits (bit_at a k) (bit_at b k) (bit_at-lt a k) (bit_at-lt b k)

pub has-intersection : (a b k : ℕ) → has_list (bit_and a b) k ≡ (has_list a k && has_list b k)
has-intersection a b k =
    ap (λ n. nat_eq n 1) (bit_at_and a b k) ∙ both-bits (bit_at a k) (bit_at b k) (bit_at-lt a k) (bit_at-lt b k)

pub has-difference : (a b k : ℕ) → b < 2 ^ 16 → k < 16 → has_list (bit_and a (bit_not w16 b)) k ≡ (has_list a k && not (has_list b k))
has-difference a b k fits below =
    has-intersection a (bit_not w16 b) k
    ∙ ap (λ n. has_list a k && nat_eq n 1) (bit_at_not w16 b k fits below)
    ∙ ap (λ c. has_list a k && c) (other-bit (bit_at b k) (bit_at-lt b k))

pub has-without : (a l k : ℕ) → l < 16 → k < 16 → has_list (bit_and a (bit_not w16 (1 * 2 ^ l % 65536))) k ≡ (has_list a k && not (nat_eq l k))
has-without a l k within below =
    elim (eqb_tells l k) [
      | inl w ↦ rw w.0 (ap (λ n. nat_eq n 1) (ap (bit_at (bit_and a (bit_not w16 (1 * 2 ^ l % 65536)))) (sym w.1) ∙ bit_at_clear_same w16 a l within) ∙ and_false (has_list a k))
      | inr w ↦ rw w.0 (ap (λ n. nat_eq n 1) (bit_at_clear_other w16 a l within k below (λ e. w.1 (sym e))) ∙ and_true (has_list a k))
    ]

-- a number of k bits that is not zero has a bit
some-bit : (k n : ℕ) → n < 2 ^ k → n ≢ 0 → (l : ℕ) × (l < k) × (bit_at n l ≡ 1)
some-bit zero n fits some = absurd (some (omega (arith, fits)))
some-bit (suc k) n fits some =
    elim (eqb_tells (n % 2) 1) [
      | inl odd ↦ (0, omega arith, bit_at_lowest n ∙ odd.1)
      | inr even ↦
          let half : n / 2 < 2 ^ k = omega (arith, fits) in
          let rest : n / 2 ≢ 0 = λ none. some (omega (arith, none, even.1)) in
          let found = some-bit k (n / 2) half rest in
          (suc found.0, omega (arith, found.1), bit_at-suc n found.0 ∙ found.2)
    ]

-- a set that is not zero has a list
pub has-some : (a : ℕ) → a < 2 ^ 16 → nat_eq a 0 ≡ false → (l : ℕ) × (l < 16) × (has_list a l ≡ true)
has-some a fits some =
    let found = some-bit 16 a fits (elim (eqb_tells a 0) [ inl w ↦ absurd (false≢true (sym some ∙ w.0)) | inr w ↦ w.1 ]) in
    (found.0, found.1, ap (λ n. nat_eq n 1) found.2)
