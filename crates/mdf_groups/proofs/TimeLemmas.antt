-- The times of samples never fall: products and quotients of floats that aren't below zero keep
-- their order, as each is rounded to the nearest float.
use Rattle.std.proofs.Common.{◌≡◌, ℕ, zero, suc, ◌+◌, ◌*◌, ◌^◌, ◌≤◌, ◌<◌, Bool, true, false, T}
use Rattle.std.proofs.Common.{◌∙◌, inl, inr, cond, pos, negsuc, refl, sym, subst, arith}
use Rattle.std.proofs.lemmas.Bool.{ltb-false}
use Rattle.std.proofs.lemmas.Float.{lt_irrefl, lt_of_le_of_lt}
use Rattle.std.specs.Float.{Float, Format, binary64, fin, inf, nan}
use Rattle.std.specs.Float.Ieee.{div, lt, mul, of_int}
use Rattle.std.specs.Prelude.{ℤ, ⊤, if◌then◌else◌}
use Rattle.mdf_groups.specs.Laws.{RisenNeverFalls, SecondsNeverFall}
use Rattle.mdf_groups.specs.Times.{power, scaled, whole}
use lib.Dec.{eqb, ltb}
use lib.Ieee.{down, emax, le, low, odd, prec, round, units, up}
use lib.Ieee.Fits.{down_pos, round_is, up_pos}
use lib.Ieee.Order.{round_mono}
use borrow.Author.Tests.{eq-eqb}
use mathlib.Core.Bool.{true≢false}
use native.Mathlib.Nat.{eq-zero-or-pos, mul-le-mul_right, mul-pos}

-- not below zero, or a NaN
abbrev pub IsUpward : Float → Type 0
IsUpward nan = ⊤
IsUpward (inf s) = s ≡ false
IsUpward (fin s m e) = s ≡ false

false_unless : (b : Bool) → (T b → ⊥) → b ≡ false
false_unless false never = refl
false_unless true never = absurd (never tt)

pub not_below : (x y : Float) → T (le x y) → lt y x ≡ false
not_below x y ordered =
    false_unless (lt y x) (λ falls. lt_irrefl x (lt_of_le_of_lt x y x ordered falls))

below_nan : (x : Float) → lt x nan ≡ false
unfolding lt
below_nan nan = refl
below_nan (inf s) = refl
below_nan (fin s m e) = refl

below_infinity : (y : Float) → lt (inf false) y ≡ false
unfolding lt
below_infinity nan = refl
below_infinity (inf s) = refl
below_infinity (fin s m e) = refl

-- a product with infinity, or a quotient by zero
below_either : (b : Bool) (y : Float) → lt (cond b nan (inf false)) y ≡ false
unfolding lt
below_either true y = refl
below_either false y = below_infinity y

cond_up : (b : Bool) (x y : Float) → IsUpward x → IsUpward y → IsUpward (cond b x y)
cond_up true x y is is' = is
cond_up false x y is is' = is'

odd_up : (d q k l : ℕ) → IsUpward (odd d false q k l)
unfolding odd
odd_up d zero k l = refl
odd_up d (suc q) k l = refl

units_up : (f : Format) (q k : ℕ) → IsUpward (units f false q k)
unfolding units
units_up f q k =
    cond_up (ltb (q * 2 ^ k) (2 ^ (low f + suc (emax f)))) (odd (suc (prec f)) false q k (low f))
    (inf false) (odd_up (suc (prec f)) q k (low f)) refl

pub round_up : (f : Format) (num den : ℕ) → IsUpward (round f false num den)
round_up f num den = subst IsUpward (sym (round_is f false num den)) (units_up f _ _)

mul_up : (f : Format) (x c : Float) → IsUpward x → IsUpward c → IsUpward (mul f x c)
unfolding mul
mul_up f nan c is is' = tt
mul_up f (inf true) c is is' = absurd (true≢false is)
mul_up f (inf false) nan is is' = tt
mul_up f (inf false) (inf true) is is' = absurd (true≢false is')
mul_up f (inf false) (inf false) is is' = refl
mul_up f (inf false) (fin true n d) is is' = absurd (true≢false is')
mul_up f (inf false) (fin false n d) is is' = cond_up (eqb n 0) nan (inf false) tt refl
mul_up f (fin true m e) c is is' = absurd (true≢false is)
mul_up f (fin false m e) nan is is' = tt
mul_up f (fin false m e) (inf true) is is' = absurd (true≢false is')
mul_up f (fin false m e) (inf false) is is' = cond_up (eqb m 0) nan (inf false) tt refl
mul_up f (fin false m e) (fin true n d) is is' = absurd (true≢false is')
mul_up f (fin false m e) (fin false n d) is is' =
    round_up f (m * up e * (n * up d)) (down e * down d)

-- both sides times the same
both_times : (a b c d w z : ℕ) → a * d ≤ b * c → a * w * (d * z) ≤ b * w * (c * z)
both_times a b c d w z ordered = omega (arith, mul-le-mul_right (w * z) ordered)

-- a product grows with its first factor
mul_keeps : (f : Format) (x y c : Float) → IsUpward x → IsUpward y → IsUpward c
    → lt y x ≡ false → lt (mul f y c) (mul f x c) ≡ false
unfolding mul lt
mul_keeps f nan y c is is' is'' ordered = below_nan (mul f y c)
mul_keeps f x nan c is is' is'' ordered = refl
mul_keeps f (inf true) y c is is' is'' ordered = absurd (true≢false is)
mul_keeps f (fin true m e) y c is is' is'' ordered = absurd (true≢false is)
mul_keeps f x (inf true) c is is' is'' ordered = absurd (true≢false is')
mul_keeps f x (fin true n d) c is is' is'' ordered = absurd (true≢false is')
mul_keeps f x y (inf true) is is' is'' ordered = absurd (true≢false is'')
mul_keeps f x y (fin true k g) is is' is'' ordered = absurd (true≢false is'')
mul_keeps f x (inf false) nan is is' is'' ordered = refl
mul_keeps f x (inf false) (inf false) is is' is'' ordered = below_infinity (mul f x (inf false))
mul_keeps f x (inf false) (fin false k g) is is' is'' ordered =
    below_either (eqb k 0) (mul f x (fin false k g))
mul_keeps f (inf false) (fin false n d) c is is' is'' ordered = absurd (true≢false ordered)
mul_keeps f (fin false m e) (fin false n d) nan is is' is'' ordered = refl
mul_keeps f (fin false m e) (fin false n d) (inf false) is is' is'' ordered =
    below_either (eqb n 0) (mul f (fin false m e) (inf false))
mul_keeps f (fin false m e) (fin false n d) (fin false k g) is is' is'' ordered =
    not_below _ _
    (round_mono f (m * up e * (k * up g)) (down e * down g) (n * up d * (k * up g))
    (down d * down g) (mul-pos (down_pos e) (down_pos g)) (mul-pos (down_pos d) (down_pos g))
    (both_times (m * up e) (n * up d) (down e) (down d) (k * up g) (down g)
    (ltb-false (n * up d * down e) (m * up e * down d) ordered)))

-- a divisor that isn't zero
some_parts : (k : ℕ) → eqb k 0 ≡ false → 0 < k
some_parts k is =
    elim (eq-zero-or-pos k) [
      | inl none ↦ absurd (true≢false (sym (eq-eqb k 0 none) ∙ is))
      | inr some ↦ some
    ]

-- a quotient grows with what is divided
div_keeps : (f : Format) (x y c : Float) → IsUpward x → IsUpward y → IsUpward c
    → lt y x ≡ false → lt (div f y c) (div f x c) ≡ false
unfolding div lt
div_keeps f nan y c is is' is'' ordered = below_nan (div f y c)
div_keeps f x nan c is is' is'' ordered = refl
div_keeps f (inf true) y c is is' is'' ordered = absurd (true≢false is)
div_keeps f (fin true m e) y c is is' is'' ordered = absurd (true≢false is)
div_keeps f x (inf true) c is is' is'' ordered = absurd (true≢false is')
div_keeps f x (fin true n d) c is is' is'' ordered = absurd (true≢false is')
div_keeps f x y (inf true) is is' is'' ordered = absurd (true≢false is'')
div_keeps f x y (fin true k g) is is' is'' ordered = absurd (true≢false is'')
div_keeps f x (inf false) nan is is' is'' ordered = refl
div_keeps f x (inf false) (inf false) is is' is'' ordered = refl
div_keeps f x (inf false) (fin false k g) is is' is'' ordered =
    below_infinity (div f x (fin false k g))
div_keeps f (inf false) (fin false n d) c is is' is'' ordered = absurd (true≢false ordered)
div_keeps f (fin false m e) (fin false n d) nan is is' is'' ordered = refl
div_keeps f (fin false m e) (fin false n d) (inf false) is is' is'' ordered = refl
div_keeps f (fin false m e) (fin false n d) (fin false k g) is is' is'' ordered =
    divided (eqb k 0) (some_parts k)
  where
    less : (a b c d w z : ℕ) → a * d ≤ b * c → a * w * (z * d) ≤ b * w * (z * c)
    less a b c d w z small = omega (arith, mul-le-mul_right (w * z) small)

    divided : (none : Bool) → (none ≡ false → 0 < k)
        → lt (cond none (cond (eqb n 0) nan (inf false))
        (round f false (n * up d * down g) (k * up g * down d)))
        (cond none (cond (eqb m 0) nan (inf false))
        (round f false (m * up e * down g) (k * up g * down e)))
        ≡ false
    divided true some = below_either (eqb n 0) (cond (eqb m 0) nan (inf false))
    divided false some =
        let by : 0 < k * up g = mul-pos (some refl) (up_pos g) in
        not_below _ _
        (round_mono f (m * up e * down g) (k * up g * down e) (n * up d * down g)
        (k * up g * down d) (mul-pos by (down_pos e)) (mul-pos by (down_pos d))
        (less (m * up e) (n * up d) (down e) (down d) (down g) (k * up g)
        (ltb-false (n * up d * down e) (m * up e * down d) ordered)))

pub whole_up : (n : ℕ) → IsUpward (whole n)
unfolding of_int
whole_up n = round_up binary64 n 1

whole_keeps : (m n : ℕ) → m ≤ n → lt (whole n) (whole m) ≡ false
unfolding of_int
whole_keeps m n ordered =
    let one : 0 < 1 = omega arith in
    not_below _ _ (round_mono binary64 m 1 n 1 one one (omega arith))

power_up : (n : ℕ) → IsUpward (power n)
power_up zero = whole_up 1
power_up (suc n) = mul_up binary64 (power n) (whole 10) (power_up n) (whole_up 10)

scaled_keeps : (x y : Float) (e : ℤ) → IsUpward x → IsUpward y → lt y x ≡ false
    → lt (scaled y e) (scaled x e) ≡ false
scaled_keeps x y (pos n) is is' ordered =
    mul_keeps binary64 x y (power n) is is' (power_up n) ordered
scaled_keeps x y (negsuc n) is is' ordered =
    div_keeps binary64 x y (power (suc n)) is is' (power_up (suc n)) ordered

pub seconds_never_fall : SecondsNeverFall
seconds_never_fall tick m n ordered =
    let size = whole tick.mantissa in
    let is_size = whole_up tick.mantissa in
    let keeps = mul_keeps binary64 (whole m) (whole n) size (whole_up m) (whole_up n) is_size
    (whole_keeps m n ordered) in
    scaled_keeps (mul binary64 (whole m) size) (mul binary64 (whole n) size) tick.exponent
    (mul_up binary64 (whole m) size (whole_up m) is_size)
    (mul_up binary64 (whole n) size (whole_up n) is_size) keeps

pub risen_never_falls : RisenNeverFalls
risen_never_falls last now = go (lt now last) refl
  where
    go : (b : Bool) → lt now last ≡ b → lt (if b then last else now) last ≡ false
    go true is = false_unless (lt last last) (lt_irrefl last)
    go false is = is
