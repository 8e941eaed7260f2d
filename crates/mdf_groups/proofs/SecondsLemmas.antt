-- The times of samples are numbers: no product on the way is infinite times zero.
use Rattle.std.proofs.Common.{◌≡◌, ℕ, zero, suc, ◌+◌, ◌*◌, ◌^◌, ◌≤◌, ◌<◌, Bool, true, false, T}
use Rattle.std.proofs.Common.{◌&&◌, cond, pos, negsuc, refl, sym, subst, arith}
use Rattle.std.proofs.lemmas.Bool.{ltb-false}
use Rattle.std.specs.Float.{Float, Format, NotNan, binary64, fin, inf, nan}
use Rattle.std.specs.Float.Ieee.{div, eq, is_nan, lt, mul, of_int}
use Rattle.std.specs.Int.{w8}
use Rattle.std.specs.Prelude.{FitsSigned, ℤ}
use Rattle.mdf_groups.proofs.TimeLemmas.{IsUpward, not_below, round_up}
use Rattle.mdf_groups.specs.Laws.{SecondsAreNumbers}
use Rattle.mdf_groups.specs.Times.{power, scaled, whole}
use borrow.Author.Tests.{eqb-true}
use lib.Dec.{eqb, ltb, ltb→lt}
use lib.Ieee.{down, emax, le, low, odd, prec, round, units, up}
use lib.Ieee.Fits.{and_l, and_r, down_pos, round_is}
use lib.Ieee.Order.{round_mono}
use lib.Ieee.Positive.{positive}
use mathlib.Core.Bool.{true≢false}
use native.Mathlib.Nat.{mul-le-mul, mul-pos}

cond_number : (b : Bool) (x y : Float) → NotNan x → NotNan y → NotNan (cond b x y)
cond_number true x y is is' = is
cond_number false x y is is' = is'

odd_number : (d q k l : ℕ) → NotNan (odd d false q k l)
unfolding odd is_nan
odd_number d zero k l = tt
odd_number d (suc q) k l = tt

infinity_number : NotNan (inf false)
unfolding is_nan
infinity_number = tt

units_number : (f : Format) (q k : ℕ) → NotNan (units f false q k)
unfolding units
units_number f q k =
    cond_number (ltb (q * 2 ^ k) (2 ^ (low f + suc (emax f))))
    (odd (suc (prec f)) false q k (low f)) (inf false) (odd_number (suc (prec f)) q k (low f))
    infinity_number

round_number : (f : Format) (num den : ℕ) → NotNan (round f false num den)
round_number f num den = subst NotNan (sym (round_is f false num den)) (units_number f _ _)

-- not below zero, and at most 2 ^ w
abbrev AtMost : ℕ → Float → Type 0
AtMost w nan = ⊥
AtMost w (inf s) = ⊥
AtMost w (fin s m e) = (s ≡ false) × (m * up e ≤ 2 ^ w * down e)

at_most : (w : ℕ) (x : Float) → IsUpward x → T (le x (fin false 1 (pos w))) → AtMost w x
unfolding le lt eq
at_most w nan is small = absurd small
at_most w (inf true) is small = absurd (true≢false is)
at_most w (inf false) is small = absurd small
at_most w (fin true m e) is small = absurd (true≢false is)
at_most w (fin false m e) is small =
    let bound : m * up e * 1 ≤ 1 * 2 ^ w * down e =
    ltb-false (1 * 2 ^ w * down e) (m * up e * 1)
    (not_below (fin false m e) (fin false 1 (pos w)) small) in
    (refl, omega (arith, bound))

whole_at_most : (n : ℕ) → n ≤ 2 ^ 64 → AtMost 64 (whole n)
unfolding of_int
whole_at_most n small =
    let one : 0 < 1 = omega arith in
    at_most 64 (round binary64 false n 1) (round_up binary64 n 1)
    (subst (λ (x : Float). T (le (round binary64 false n 1) x)) limit
    (round_mono binary64 n 1 (2 ^ 64) 1 one one (omega arith)))
  where
    limit : round binary64 false (2 ^ 64) 1 ≡ fin false 1 (pos 64)
    limit = unfold round in refl

product_at_most : (x y : Float) → AtMost 64 x → AtMost 64 y → AtMost 128 (mul binary64 x y)
unfolding mul
product_at_most nan y few few' = absurd few
product_at_most (inf s) y few few' = absurd few
product_at_most (fin s m e) nan few few' = absurd few'
product_at_most (fin s m e) (inf t) few few' = absurd few'
product_at_most (fin true m e) (fin t n d) few few' = absurd (true≢false few.0)
product_at_most (fin false m e) (fin true n d) few few' = absurd (true≢false few'.0)
product_at_most (fin false m e) (fin false n d) few few' =
    let one : 0 < 1 = omega arith in
    let both = mul-le-mul few.1 few'.1 in
    at_most 128 (round binary64 false (m * up e * (n * up d)) (down e * down d))
    (round_up binary64 (m * up e * (n * up d)) (down e * down d))
    (subst
    (λ (x : Float). T (le (round binary64 false (m * up e * (n * up d)) (down e * down d)) x)) limit
    (round_mono binary64 (m * up e * (n * up d)) (down e * down d) (2 ^ 128) 1
    (mul-pos (down_pos e) (down_pos d)) one (omega (arith, both))))
  where
    limit : round binary64 false (2 ^ 128) 1 ≡ fin false 1 (pos 128)
    limit = unfold round in refl

-- the powers from one on are finite, and none is zero
all_positive : ℕ → Float → Bool
all_positive zero x = positive x
all_positive (suc n) x = positive x && all_positive n (mul binary64 x (whole 10))

powers_positive : T (all_positive 128 (whole 1))
unfolding mul of_int all_positive
powers_positive = tt

positive_behind : (m k n : ℕ) → n ≤ m → T (all_positive m (power k)) → T (positive (power (k + n)))
unfolding all_positive
positive_behind zero k n few all =
    let at : k ≡ k + n = omega (arith, few) in
    subst (λ (j : ℕ). T (positive (power j))) at all
positive_behind (suc m) k zero few all =
    let at : k ≡ k + 0 = omega arith in
    subst (λ (j : ℕ). T (positive (power j))) at
    (and_l (positive (power k)) (all_positive m (power (suc k))) all)
positive_behind (suc m) k (suc n) few all =
    let at : suc k + n ≡ k + suc n = omega arith in
    subst (λ (j : ℕ). T (positive (power j))) at
    (positive_behind m (suc k) n (omega (arith, few))
    (and_r (positive (power k)) (all_positive m (power (suc k))) all))

power_positive : (n : ℕ) → n ≤ 128 → T (positive (power n))
power_positive n few =
    let at : 0 + n ≡ n = omega arith in
    subst (λ (j : ℕ). T (positive (power j))) at (positive_behind 128 0 n few powers_positive)

mul_number : (w : ℕ) (x y : Float) → AtMost w x → T (positive y) → NotNan (mul binary64 x y)
unfolding mul
mul_number w nan y few some = absurd few
mul_number w (inf s) y few some = absurd few
mul_number w (fin s m e) nan few some = absurd some
mul_number w (fin s m e) (inf t) few some = absurd some
mul_number w (fin true m e) y few some = absurd (true≢false few.0)
mul_number w (fin false m e) (fin true n d) few some = absurd some
mul_number w (fin false m e) (fin false n d) few some =
    round_number binary64 (m * up e * (n * up d)) (down e * down d)

div_number : (w : ℕ) (x y : Float) → AtMost w x → T (positive y) → NotNan (div binary64 x y)
unfolding div
div_number w nan y few some = absurd few
div_number w (inf s) y few some = absurd few
div_number w (fin s m e) nan few some = absurd some
div_number w (fin s m e) (inf t) few some = absurd some
div_number w (fin true m e) y few some = absurd (true≢false few.0)
div_number w (fin false m e) (fin true n d) few some = absurd some
div_number w (fin false m e) (fin false n d) few some =
    let there : 0 < n = ltb→lt 0 n some in
    divided (eqb n 0) (λ is. let none : n ≡ 0 = eqb-true n 0 is in omega (arith, there, none))
  where
    divided : (none : Bool) → (none ≡ true → ⊥)
        → NotNan (cond none (cond (eqb m 0) nan (inf false))
        (round binary64 false (m * up e * down d) (n * up d * down e)))
    divided true never = absurd (never refl)
    divided false never = round_number binary64 (m * up e * down d) (n * up d * down e)

scaled_number : (w : ℕ) (x : Float) (e : ℤ) → AtMost w x → FitsSigned w8 e → NotNan (scaled x e)
scaled_number w x (pos n) few short =
    mul_number w x (power n) few (power_positive n (omega (arith, short)))
scaled_number w x (negsuc n) few short =
    div_number w x (power (suc n)) few (power_positive (suc n) (omega (arith, short)))

pub seconds_are_numbers : SecondsAreNumbers
seconds_are_numbers tick n few narrow short =
    scaled_number 128 (mul binary64 (whole n) (whole tick.mantissa)) tick.exponent
    (product_at_most (whole n) (whole tick.mantissa) (whole_at_most n (omega (arith, few)))
    (whole_at_most tick.mantissa (omega (arith, narrow)))) short
