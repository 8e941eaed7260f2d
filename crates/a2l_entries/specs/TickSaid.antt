-- How long a tick is, as the words of a TIMESTAMP_SUPPORTED say it (ASAM MCD-1 XCP).
use Rattle.std.specs.Prelude.{ℕ, ℤ, ◌*◌, ◌==◌, nat_lt, List, [], ◌∷◌, codes, Option}
use Rattle.std.specs.Prelude.{Some, None, if◌then◌else◌, pos, negsuc}
use Rattle.a2l_text.specs.Keywords.{meaning}
use Rattle.a2l_text.specs.Tokens.{Token}
use Rattle.measured_values.specs.declared.tick.Tick.{Tick}
use Rattle.a2l_entries.specs.Gives.{◌>>=◌}
use Rattle.a2l_entries.specs.Said.{first_of, plain_said, integer_said}

-- so many times 10 to the power of an exponent, in seconds
abbrev pub tick_with : ℕ → ℤ → Tick
tick_with mantissa exponent = record { mantissa = mantissa; exponent = exponent }

-- n times 10 ^ -12, 10 ^ -9, 10 ^ -6, 10 ^ -3 and 1 seconds: negsuc 11 is -12
abbrev pub picoseconds : ℕ → Tick
picoseconds n = tick_with n (negsuc 11)

abbrev pub nanoseconds : ℕ → Tick
nanoseconds n = tick_with n (negsuc 8)

abbrev pub microseconds : ℕ → Tick
microseconds n = tick_with n (negsuc 5)

abbrev pub milliseconds : ℕ → Tick
milliseconds n = tick_with n (negsuc 2)

abbrev pub seconds : ℕ → Tick
seconds n = tick_with n (pos 0)

-- the units of a tick, by their keywords
abbrev pub units : List (List ℕ × Tick)
units =
    (codes "UNIT_1PS", picoseconds 1)
    ∷ (codes "UNIT_10PS", picoseconds 10)
    ∷ (codes "UNIT_100PS", picoseconds 100)
    ∷ (codes "UNIT_1NS", nanoseconds 1)
    ∷ (codes "UNIT_10NS", nanoseconds 10)
    ∷ (codes "UNIT_100NS", nanoseconds 100)
    ∷ (codes "UNIT_1US", microseconds 1)
    ∷ (codes "UNIT_10US", microseconds 10)
    ∷ (codes "UNIT_100US", microseconds 100)
    ∷ (codes "UNIT_1MS", milliseconds 1)
    ∷ (codes "UNIT_10MS", milliseconds 10)
    ∷ (codes "UNIT_100MS", milliseconds 100)
    ∷ (codes "UNIT_1S", seconds 1)
    ∷ []

unfoldable pub unit_said : Token → Option Tick
unit_said w = plain_said w >>= meaning units

-- the number of ticks is a WORD, and not 0
abbrev pub ticks_of : ℕ → Option ℕ
ticks_of n = if n == 0 then None else (if nat_lt 65535 n then None else Some n)

unfoldable pub ticks_said : Token → Option ℕ
ticks_said w = integer_said w >>= ticks_of

-- ticks, size and unit, in this order; the size says nothing of how long a tick is
unfoldable pub tick_said : List Token → Option Tick
tick_said ws = do
  first ← first_of ws
  ticks ← ticks_said first.0
  size ← first_of first.1
  last ← first_of size.1
  unit ← unit_said last.0
  Some (record { mantissa = ticks * unit.mantissa; exponent = unit.exponent })
