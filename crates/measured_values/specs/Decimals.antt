-- Numbers that are written in decimal digits with a point.
use Rattle.std.specs.Prelude.{◌≡◌, ◌≢◌, ◌==◌, ℕ, suc, ◌+◌, ◌-◌, ◌*◌, ◌<◌, ◌^◌, ℤ, pos, negsuc}
use Rattle.std.specs.Prelude.{List, [], ◌∷◌, ◌++◌, length, take, drop, replicate, slice_index}
use Rattle.std.specs.Prelude.{if◌then◌else◌, nat_lt}
use Rattle.std.specs.Str.Parse.{AllDigits, IsNumeral, digits_value}

-- a number times 10 ^ exponent is the fraction with these powers of ten above and below
abbrev pub tens_above : ℤ → ℕ
tens_above (pos k) = k
tens_above (negsuc k) = 0

abbrev pub tens_below : ℤ → ℕ
tens_below (pos k) = 0
tens_below (negsuc k) = suc k

-- a fraction behind its point; nothing, if it has no digits
abbrev pub behind_point : List ℕ → List ℕ
behind_point [] = []
behind_point (d ∷ ds) = 46 ∷ d ∷ ds

-- The text writes number * 10 ^ exponent: its digits, read as a number, are that many times the
-- power of ten of those behind the point. No zero stands in front but before the point, and none
-- at the end of a fraction.
pub record IsDecimal (number : ℕ) (exponent : ℤ) (text : List ℕ) : Type 0 where
  pub whole : List ℕ
  pub fraction : List ℕ
  pub parts : text ≡ whole ++ behind_point fraction
  pub whole_digits : IsNumeral 10 whole
  pub fraction_digits : AllDigits 10 fraction
  pub no_zero_in_front : slice_index whole 0 ≡ 48 → length whole ≡ 1
  pub no_zero_behind : 0 < length fraction → slice_index fraction (length fraction - 1) ≢ 48
  pub worth : digits_value 10 (whole ++ fraction) * 10 ^ tens_below exponent
      ≡ number * 10 ^ (tens_above exponent + length fraction)

-- digits with a point before the last `places` of them, and zeros in front if there are too few
abbrev pub placed : List ℕ → ℕ → List ℕ
placed digits places =
    if places == 0 then digits
    else (if nat_lt places (length digits)
    then take (length digits - places) digits ++ 46 ∷ drop (length digits - places) digits
    else 48 ∷ 46 ∷ (replicate (places - length digits) 48 ++ digits))
