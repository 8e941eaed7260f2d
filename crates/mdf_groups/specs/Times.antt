-- The times of samples in seconds (own).
use Rattle.std.specs.Prelude.{ℕ, zero, suc, ℤ, pos, negsuc, if◌then◌else◌}
use Rattle.std.specs.Float.{Float, binary64}
use Rattle.std.specs.Float.Ieee.{div, lt, mul, of_int}
use Rattle.measured_values.specs.declared.tick.Tick.{Tick}

abbrev pub whole : ℕ → Float
whole n = of_int binary64 (pos n)

-- a power of ten, multiplied up; as it has fewer than 53 bits up to 10 ^ 22, no product is rounded
abbrev pub power : ℕ → Float
power zero = whole 1
power (suc n) = mul binary64 (power n) (whole 10)

-- times or divided by a power of ten
abbrev pub scaled : Float → ℤ → Float
scaled x (pos n) = mul binary64 x (power n)
scaled x (negsuc n) = div binary64 x (power (suc n))

-- so many ticks in seconds
abbrev pub seconds_of : ℕ → Tick → Float
seconds_of at tick = scaled (mul binary64 (whole at) (whole tick.mantissa)) tick.exponent

-- the later of two times
abbrev pub risen : Float → Float → Float
risen last now = if lt now last then last else now
