-- The tick that a text says.
use Rattle.std.specs.Prelude.{◌≡◌, ◌≢◌, ℕ, ◌+◌, ◌*◌, ◌<◌, ◌≤◌, ◌%◌, ◌^◌, List, length, true}
use Rattle.std.specs.Float.Numeral.{Parts, has_digits, numeral_digits, scan_numeral, tens_down}
use Rattle.std.specs.Float.Numeral.{tens_up}
use Rattle.measured_values.specs.declared.tick.Tick.{Tick}
use Rattle.measured_values.specs.Decimals.{tens_above, tens_below}
use Rattle.measured_values.specs.declared.tick_text.TheConstants.{MAX_DIGITS, MAX_EXPONENT}
use Rattle.measured_values.specs.declared.tick_text.TheConstants.{MAX_EXPONENT_DIGITS, MAX_MANTISSA}

-- these are the parts of a text of this length that is one numeral, with no more digits than are
-- read
pub record IsShort (p : Parts) (text_len : ℕ) : Type 0 where
  pub numeral : has_digits p ≡ true
  pub whole_text : p.len ≡ text_len
  pub digits : length p.whole + length p.fraction ≤ MAX_DIGITS
  pub exponent : length p.exponent ≤ MAX_EXPONENT_DIGITS

-- the parts write the tick: mantissa * 10 ^ exponent is their number
pub record IsTickOf (p : Parts) (tick : Tick) : Type 0 where
  pub positive : 0 < tick.mantissa
  pub few_digits : tick.mantissa ≤ MAX_MANTISSA
  pub no_zero_behind : tick.mantissa % 10 ≢ 0
  pub not_long : tens_above tick.exponent ≤ MAX_EXPONENT
  pub not_short : tens_below tick.exponent ≤ MAX_EXPONENT
  pub worth : numeral_digits p * 10 ^ (tens_up p + tens_below tick.exponent)
      ≡ tick.mantissa * 10 ^ (tens_above tick.exponent + tens_down p)

-- a text says a tick
abbrev pub SaysTick : List ℕ → Tick → Type 0
SaysTick text tick = IsShort (scan_numeral text) (length text) × IsTickOf (scan_numeral text) tick
