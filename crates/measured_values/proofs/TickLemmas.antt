-- The one tick that a numeral writes.
use Rattle.std.proofs.Common.{◌≡◌, ◌≢◌, ℕ, ◌+◌, ◌*◌, ◌%◌, ◌^◌, ◌<◌, ◌≤◌, arith, sym, ap, ◌∙◌}
use Rattle.std.proofs.Common.{mul_assoc, pow-add, mul-pos, zero-mul, lit<, ◌⊎◌, ⊎_elim}
use Rattle.std.proofs.Math.Nat.{one-le-pow}
use Rattle.std.specs.Float.Numeral.{Parts, numeral_digits, tens_down, tens_up}
use Rattle.measured_values.specs.declared.tick.Tick.{Tick}
use Rattle.measured_values.specs.Decimals.{tens_above, tens_below}
use Rattle.measured_values.specs.Ticks.{IsTickOf}
use Rattle.measured_values.specs.declared.tick_text.TheConstants.{MAX_EXPONENT, MAX_MANTISSA}
use Rattle.measured_values.proofs.PowerLemmas.{few_zeros, same_from_product}

-- the numeral's digits without the zeros that they end in
pub record IsReducedTo (p : Parts) (rest zeros : ℕ) : Type 0 where
  pub worth : numeral_digits p ≡ rest * 10 ^ zeros
  pub ends : rest % 10 ≢ 0

worth_with : (p : Parts) (rest zeros k : ℕ) → numeral_digits p ≡ rest * 10 ^ zeros
    → numeral_digits p * 10 ^ k ≡ rest * 10 ^ (zeros + k)
worth_with p rest zeros k e =
    ap (λ n. n * 10 ^ k) e ∙ mul_assoc rest (10 ^ zeros) (10 ^ k)
    ∙ ap (λ n. rest * n) (sym (pow-add 10 zeros k))

-- the tick of what is left and the exponent that it takes
pub IsTickOf-reduced : (p : Parts) (tick : Tick) (zeros : ℕ) → IsReducedTo p tick.mantissa zeros
    → 0 < tick.mantissa → tick.mantissa ≤ MAX_MANTISSA
    → (zeros + tens_up p) + tens_below tick.exponent ≡ tens_down p + tens_above tick.exponent
    → (tens_above tick.exponent ≤ MAX_EXPONENT) × (tens_below tick.exponent ≤ MAX_EXPONENT)
    → IsTickOf p tick
IsTickOf-reduced p tick zeros r some few powers limits =
    let same : zeros + (tens_up p + tens_below tick.exponent)
    ≡ tens_above tick.exponent + tens_down p = omega (arith, powers) in
    record {
      positive = some;
      few_digits = few;
      no_zero_behind = r.ends;
      not_long = limits.0;
      not_short = limits.1;
      worth = worth_with p tick.mantissa zeros (tens_up p + tens_below tick.exponent) r.worth
          ∙ ap (λ k. tick.mantissa * 10 ^ k) same;
    }

-- no tick has another mantissa or another exponent
pub only_tick : (p : Parts) (tick : Tick) (rest zeros : ℕ) → IsReducedTo p rest zeros
    → IsTickOf p tick → (rest ≡ tick.mantissa)
    × ((zeros + tens_up p) + tens_below tick.exponent ≡ tens_down p + tens_above tick.exponent)
only_tick p tick rest zeros r is_tick =
    let worth = worth_with p rest zeros (tens_up p + tens_below tick.exponent) r.worth in
    let both = same_from_product rest tick.mantissa (zeros + (tens_up p + tens_below tick.exponent))
    (tens_above tick.exponent + tens_down p) r.ends is_tick.no_zero_behind
    (sym worth ∙ is_tick.worth) in
    (both.0, omega (arith, both.1))

-- and a numeral of 0 has none
pub no_tick : (p : Parts) (tick : Tick) → numeral_digits p ≡ 0 → ¬ (IsTickOf p tick)
no_tick p tick none is_tick =
    let power : 0 < 10 ^ (tens_above tick.exponent + tens_down p) =
    one-le-pow (tens_above tick.exponent + tens_down p) 10 (lit< tt) in
    let product : 0 < tick.mantissa * 10 ^ (tens_above tick.exponent + tens_down p) =
    mul-pos is_tick.positive power in
    let nothing : numeral_digits p * 10 ^ (tens_up p + tens_below tick.exponent) ≡ 0 =
    ap (λ n. n * 10 ^ (tens_up p + tens_below tick.exponent)) none
    ∙ zero-mul (10 ^ (tens_up p + tens_below tick.exponent)) in
    omega (arith, product, nothing, is_tick.worth)

-- the digits of a numeral, without the zeros that they end in
pub IsReducedTo-digits : (p : Parts) (n rest ends : ℕ) → n ≡ numeral_digits p → n < 10 ^ 30
    → n ≢ 0 → n ≡ rest * 10 ^ ends → ends ≤ 30 → (ends < 30 → rest % 10 ≢ 0)
    → IsReducedTo p rest ends
IsReducedTo-digits p n rest ends n_is small some rest_is most done =
    let more : 0 < n = omega (arith, some) in
    record {
      worth = sym n_is ∙ rest_is;
      ends = done (few_zeros n rest ends rest_is more small most);
    }

-- no tick has a longer mantissa
pub no_long_tick : (p : Parts) (tick : Tick) (rest ends : ℕ) → IsReducedTo p rest ends
    → MAX_MANTISSA < rest → ¬ (IsTickOf p tick)
no_long_tick p tick rest ends r long is_tick =
    omega (arith, long, is_tick.few_digits, (only_tick p tick rest ends r is_tick).0)

-- nor an exponent out of the limits
pub no_far_tick : (p : Parts) (tick : Tick) (rest ends up down : ℕ) → IsReducedTo p rest ends
    → up ≡ ends + tens_up p → down ≡ tens_down p
    → (down + MAX_EXPONENT < up) ⊎ (up + MAX_EXPONENT < down) → ¬ (IsTickOf p tick)
no_far_tick p tick rest ends up down r up_is down_is far is_tick =
    let powers = (only_tick p tick rest ends r is_tick).1 in
    ⊎_elim (λ above. omega (arith, above, powers, up_is, down_is, is_tick.not_long))
    (λ below. omega (arith, below, powers, up_is, down_is, is_tick.not_short)) far
