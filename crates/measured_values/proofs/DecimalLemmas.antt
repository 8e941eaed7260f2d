-- The texts of numbers with a point.
use Rattle.std.proofs.Common.{◌≡◌, ◌≢◌, ℕ, zero, suc, ◌+◌, ◌-◌, ◌*◌, ◌%◌, ◌^◌, ◌<◌, ◌≤◌, ℤ, pos}
use Rattle.std.proofs.Common.{negsuc, List, [], ◌∷◌, ◌++◌, length, get_or, take, drop, replicate}
use Rattle.std.proofs.Common.{decimal, arith, refl, sym, ap, ◌∙◌, take-append-drop, append-nil}
use Rattle.std.proofs.Common.{length-append, length-take, length-drop, mul-one, add-zero, zero-mul}
use Rattle.std.proofs.Common.{lit<, ⊎_elim, subst, neg_ℤ, mul_assoc, pow-add}
use Rattle.std.proofs.Common.{int_le, nat_abs, true}
use Rattle.std.proofs.Math.ListN.{length-replicate}
use Rattle.std.proofs.lemmas.Bool.{cases_lt, false≢true}
use Rattle.std.proofs.lemmas.Bool.Decides.{nat_tests}
use Rattle.std.proofs.lemmas.Fmt.{decimal_is_IsNumeral_wide}
use Rattle.std.specs.Str.Parse.{digits_value}
use Rattle.measured_values.specs.Decimals.{IsDecimal, behind_point, placed, tens_above, tens_below}
use Rattle.measured_values.proofs.PowerLemmas.{rest-le, rest_some}
use Rattle.measured_values.proofs.DigitLemmas.{AllDigits-append, AllDigits-drop, AllDigits-take}
use Rattle.measured_values.proofs.DigitLemmas.{AllDigits-zeros, decimal_is_written}
use Rattle.measured_values.proofs.DigitLemmas.{digits_value-front_zeros, digits_value_after-append}
use Rattle.measured_values.proofs.DigitLemmas.{digits_value_after-zeros, first-append, last-append}
use Rattle.measured_values.proofs.DigitLemmas.{last_of}

-- a fraction that has digits stands behind a point
behind_point_is : (ds : List ℕ) → 0 < length ds → behind_point ds ≡ 46 ∷ ds
behind_point_is [] some = absurd (omega (arith, some))
behind_point_is (d ∷ ds) some = refl

-- nothing
pub IsDecimal-zero : (number : ℕ) (exponent : ℤ) → number ≡ 0 → IsDecimal number exponent (48 ∷ [])
IsDecimal-zero number exponent none = record {
  whole = 48 ∷ [];
  fraction = [];
  parts = refl;
  whole_digits = (lit< tt, (lit< tt, tt));
  fraction_digits = tt;
  no_zero_in_front = λ _. refl;
  no_zero_behind = λ some. absurd (omega (arith, some));
  worth = rw none (zero-mul (10 ^ tens_below exponent)
      ∙ sym (zero-mul (10 ^ (tens_above exponent + 0))));
}

-- a whole number: the zeros of its power stand behind its digits
pub IsDecimal-whole : (number k : ℕ) → 0 < number → number < 10 ^ 64
    → IsDecimal number (pos k) (decimal number ++ replicate k 48)
IsDecimal-whole number k some small =
    let ds = decimal number in
    let numeral = decimal_is_IsNumeral_wide number small in
    let written = decimal_is_written number small in
    record {
      whole = ds ++ replicate k 48;
      fraction = [];
      parts = sym (append-nil (ds ++ replicate k 48));
      whole_digits = (
        omega (arith, length-append ds (replicate k 48), written.some),
        AllDigits-append ds (replicate k 48) numeral.0.1 (AllDigits-zeros k),
      );
      fraction_digits = tt;
      no_zero_in_front = λ zero_first. absurd (
          let first : get_or (ds ++ replicate k 48) 0 0 ≡ get_or ds 0 0 =
          first-append ds (replicate k 48) written.some in
          omega (arith, first, written.front some, zero_first));
      no_zero_behind = λ some. absurd (omega (arith, some));
      worth = mul-one (digits_value 10 ((ds ++ replicate k 48) ++ []))
          ∙ ap (digits_value 10) (append-nil (ds ++ replicate k 48))
          ∙ digits_value_after-append 0 ds (replicate k 48)
          ∙ digits_value_after-zeros (digits_value 10 ds) k
          ∙ ap (λ n. n * 10 ^ k) numeral.1
          ∙ ap (λ p. number * 10 ^ p) (sym (add-zero k));
    }

-- what is left of a number that stands before a power of ten, without zeros that it ends in, and
-- how many places of that stand behind the point
pub record IsReduced (number : ℕ) (exponent : ℤ) (rest places : ℕ) : Type 0 where
  pub worth : rest * 10 ^ tens_below exponent ≡ number * 10 ^ (tens_above exponent + places)
  pub some : 0 < rest
  pub small : rest < 10 ^ 64
  pub ends : 0 < places → rest % 10 ≢ 0

-- all digits stand before the point
no_places : (number : ℕ) (z : ℤ) (rest : ℕ) → IsReduced number z rest 0
    → IsDecimal number z (decimal rest)
no_places number z rest r =
    let numeral = decimal_is_IsNumeral_wide rest r.small in
    let written = decimal_is_written rest r.small in
    record {
      whole = decimal rest;
      fraction = [];
      parts = sym (append-nil (decimal rest));
      whole_digits = numeral.0;
      fraction_digits = tt;
      no_zero_in_front = λ zero_first. absurd (omega (arith, written.front r.some, zero_first));
      no_zero_behind = λ some. absurd (omega (arith, some));
      worth = ap (λ ds. digits_value 10 ds * 10 ^ tens_below z) (append-nil (decimal rest))
          ∙ ap (λ n. n * 10 ^ tens_below z) numeral.1 ∙ r.worth;
    }

-- the point stands among the digits
among_digits : (number : ℕ) (z : ℤ) (rest places : ℕ) → IsReduced number z rest places → 0 < places
    → places < length (decimal rest)
    → (front : ℕ) → front ≡ length (decimal rest) - places
    → IsDecimal number z (take front (decimal rest) ++ 46 ∷ drop front (decimal rest))
among_digits number z rest places r some within front front_is =
    let ds = decimal rest in
    let numeral = decimal_is_IsNumeral_wide rest r.small in
    let written = decimal_is_written rest r.small in
    let joined : take front ds ++ drop front ds ≡ ds = take-append-drop front ds in
    let front_len : length (take front ds) ≡ front = omega (arith, length-take front ds) in
    let back_len : length (drop front ds) ≡ places = omega (arith, length-drop front ds) in
    let back_some : 0 < length (drop front ds) = omega arith in
    let shifted : places ≡ length (drop front ds) = omega arith in
    record {
      whole = take front ds;
      fraction = drop front ds;
      parts = ap (λ back. take front ds ++ back) (sym (behind_point_is (drop front ds) back_some));
      whole_digits = (omega arith, AllDigits-take front ds numeral.0.1);
      fraction_digits = AllDigits-drop front ds numeral.0.1;
      no_zero_in_front = λ zero_first. absurd (
          let first : get_or (take front ds ++ drop front ds) 0 0 ≡ get_or (take front ds) 0 0 =
          first-append (take front ds) (drop front ds) (omega arith) in
          let same : get_or ds 0 0 ≡ get_or (take front ds) 0 0 =
          ap (λ xs. get_or xs 0 0) (sym joined) ∙ first in
          omega (arith, written.front r.some, zero_first, same));
      no_zero_behind = λ _ zero_last. r.ends some (
          let same : last_of (drop front ds) ≡ last_of ds =
          sym (last-append (take front ds) (drop front ds) back_some) ∙ ap last_of joined in
          omega (arith, written.last, zero_last, same));
      worth = ap (λ xs. digits_value 10 xs * 10 ^ tens_below z) joined
          ∙ ap (λ n. n * 10 ^ tens_below z) numeral.1 ∙ r.worth
          ∙ ap (λ p. number * 10 ^ (tens_above z + p)) shifted;
    }

-- zeros stand between the point and the digits
behind_zeros : (number : ℕ) (z : ℤ) (rest places zeros : ℕ) → IsReduced number z rest places
    → 0 < places → places ≡ zeros + length (decimal rest)
    → IsDecimal number z (48 ∷ 46 ∷ (replicate zeros 48 ++ decimal rest))
behind_zeros number z rest places zeros r some places_is =
    let ds = decimal rest in
    let numeral = decimal_is_IsNumeral_wide rest r.small in
    let written = decimal_is_written rest r.small in
    let back_len : length (replicate zeros 48 ++ ds) ≡ places =
    omega (arith, length-append (replicate zeros 48) ds, length-replicate {A = ℕ} zeros 48) in
    let back_some : 0 < length (replicate zeros 48 ++ ds) = omega arith in
    let shifted : places ≡ length (replicate zeros 48 ++ ds) = omega arith in
    record {
      whole = 48 ∷ [];
      fraction = replicate zeros 48 ++ ds;
      parts = ap (λ behind. 48 ∷ behind)
          (sym (behind_point_is (replicate zeros 48 ++ ds) back_some));
      whole_digits = (lit< tt, (lit< tt, tt));
      fraction_digits =
          AllDigits-append (replicate zeros 48) ds (AllDigits-zeros zeros) numeral.0.1;
      no_zero_in_front = λ _. refl;
      no_zero_behind = λ _ zero_last. r.ends some (
          let same : last_of (replicate zeros 48 ++ ds) ≡ last_of ds =
          last-append (replicate zeros 48) ds written.some in
          omega (arith, written.last, zero_last, same));
      worth = ap (λ n. n * 10 ^ tens_below z) (digits_value-front_zeros zeros ds ∙ numeral.1)
          ∙ r.worth
          ∙ ap (λ p. number * 10 ^ (tens_above z + p)) shifted;
    }

placed-among : (ds : List ℕ) (places : ℕ) → 0 < places → places < length ds → placed ds places
    ≡ take (length ds - places) ds ++ 46 ∷ drop (length ds - places) ds
placed-among ds places some within = grind (arith, nat_tests)

placed-behind : (ds : List ℕ) (places : ℕ) → 0 < places → length ds ≤ places → placed ds places
    ≡ 48 ∷ 46 ∷ (replicate (places - length ds) 48 ++ ds)
placed-behind ds places some beyond = grind (arith, nat_tests)

-- a number with places behind the point
pub IsDecimal-placed : (number : ℕ) (z : ℤ) (rest places : ℕ) → IsReduced number z rest places
    → IsDecimal number z (placed (decimal rest) places)
IsDecimal-placed number z rest zero r = no_places number z rest r
IsDecimal-placed number z rest (suc p) r =
    let some : 0 < suc p = omega arith in
    ⊎_elim
    (λ within. subst (IsDecimal number z) (sym (placed-among (decimal rest) (suc p) some within))
    (among_digits number z rest (suc p) r some within (length (decimal rest) - suc p) refl))
    (λ beyond. subst (IsDecimal number z) (sym (placed-behind (decimal rest) (suc p) some beyond))
    (behind_zeros number z rest (suc p) (suc p - length (decimal rest)) r some
    (omega (arith, beyond))))
    (cases_lt (suc p) (length (decimal rest)))

tens_below-neg : (n : ℕ) → tens_below (neg_ℤ (pos n)) ≡ n
tens_below-neg zero = refl
tens_below-neg (suc n) = refl

tens_above-neg : (n : ℕ) → tens_above (neg_ℤ (pos n)) ≡ 0
tens_above-neg zero = refl
tens_above-neg (suc n) = refl

-- a number of 128 bits, with this many of its digits behind the point
pub IsDecimal-fraction : (number places rest ends : ℕ) → number ≡ rest * 10 ^ ends → ends ≤ places
    → (ends < places → rest % 10 ≢ 0) → 0 < number → number < 2 ^ 128
    → IsDecimal number (neg_ℤ (pos places)) (placed (decimal rest) (places - ends))
IsDecimal-fraction number places rest ends number_is most done some small =
    let left : ends + (places - ends) ≡ places = omega (arith, most) in
    let product : number * 10 ^ (places - ends) ≡ rest * 10 ^ places =
    ap (λ n. n * 10 ^ (places - ends)) number_is ∙ mul_assoc rest (10 ^ ends) (10 ^ (places - ends))
    ∙ ap (λ n. rest * n) (sym (pow-add 10 ends (places - ends)) ∙ ap (λ k. 10 ^ k) left) in
    let powers : tens_above (neg_ℤ (pos places)) + (places - ends) ≡ places - ends =
    omega (arith, tens_above-neg places) in
    IsDecimal-placed number (neg_ℤ (pos places)) rest (places - ends) (record {
      worth = ap (λ k. rest * 10 ^ k) (tens_below-neg places) ∙ sym product
          ∙ ap (λ k. number * 10 ^ k) (sym powers);
      some = rest_some number rest ends number_is some;
      small = omega (arith, rest-le number rest ends number_is, small);
      ends = λ behind. done (omega (arith, behind));
    })

-- a whole number, at an exponent that isn't negative
pub IsDecimal-up : (number : ℕ) (z : ℤ) (k : ℕ) → int_le (pos 0) z ≡ true → k ≡ nat_abs z
    → 0 < number → number < 2 ^ 128 → IsDecimal number z (decimal number ++ replicate k 48)
IsDecimal-up number (pos n) k up k_is some small =
    subst (λ m. IsDecimal number (pos n) (decimal number ++ replicate m 48)) (sym k_is)
    (IsDecimal-whole number n some (omega (arith, small)))
IsDecimal-up number (negsuc n) k up k_is some small = absurd (false≢true up)
