-- What a word says as a number.
use Rattle.std.specs.Prelude.{◌≡◌, ◌<◌, ◌^◌, ℕ, Bool, false, List, [], ◌∷◌, drop, pos}
use Rattle.std.specs.Prelude.{◌==◌, ◌&&◌, ◌||◌, if◌then◌else◌, Option, Some, None}
use Rattle.std.specs.Bool.{MatchBool}
use Rattle.std.specs.Option.{SomeIff, option_and_then}
use Rattle.std.specs.Float.{binary64}
use Rattle.std.specs.Float.Ieee.{Float, of_int}
use Rattle.std.specs.Float.{float_is_finite}
use Rattle.std.specs.Str.Parse.{IsNumeral, digits_value}
use Rattle.fast_float.specs.Parse.{parse_float}

-- the word begins with 0x or 0X
abbrev pub is_hexadecimal : List ℕ → Bool
is_hexadecimal [] = false
is_hexadecimal (first ∷ []) = false
is_hexadecimal (first ∷ second ∷ digits) = first == 48 && (second == 120 || second == 88)

abbrev pub radix_of : List ℕ → ℕ
radix_of word = if is_hexadecimal word then 16 else 10

abbrev pub digits_of : List ℕ → List ℕ
digits_of word = if is_hexadecimal word then drop 2 word else word

-- one digit or more, and nothing else but 0x before hexadecimal ones, below 2 ^ 64
pub record IsInteger (word : List ℕ) : Type 0 where
  pub numeral : IsNumeral (radix_of word) (digits_of word)
  pub fits : digits_value (radix_of word) (digits_of word) < 2 ^ 64

abbrev pub integer_value : List ℕ → ℕ
integer_value word = digits_value (radix_of word) (digits_of word)

abbrev pub if_finite : Float → Option Float
if_finite x = if float_is_finite x then Some x else None

-- the finite number that a word says, as the nearest f64: an integer with 0x, or a decimal float
abbrev pub SaysNumber : List ℕ → Option Float → Type 0
SaysNumber word number = MatchBool (is_hexadecimal word)
    (SomeIff number (IsInteger word) (of_int binary64 (pos (integer_value word))))
    (number ≡ option_and_then if_finite (parse_float binary64 word))
