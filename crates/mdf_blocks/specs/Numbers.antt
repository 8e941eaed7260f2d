-- The numbers of the format, lowest byte first (ASAM MDF 4.1, data types).
use Rattle.std.specs.Prelude.{◌≡◌, ℕ, ◌+◌, ℤ, List, [], ◌∷◌, ◌++◌, replicate, slice_index}
use Rattle.std.specs.Prelude.{from_bits}
use Rattle.std.specs.Prelude.{slice_range}
use Rattle.std.specs.Int.{cast_signed, cast_unsigned, from_le_bytes, to_le_bytes, w16, w32, w64}
use Rattle.std.specs.Float.{Float, binary64}
use Rattle.std.specs.Float.Ieee.{to_bits}

-- UINT8, UINT16, UINT32 and UINT64; a LINK is a UINT64
abbrev pub uint8 : ℕ → List ℕ
uint8 n = n ∷ []

abbrev pub uint16 : ℕ → List ℕ
uint16 n = to_le_bytes w16 n

abbrev pub uint32 : ℕ → List ℕ
uint32 n = to_le_bytes w32 n

abbrev pub uint64 : ℕ → List ℕ
uint64 n = to_le_bytes w64 n

-- INT16, in two's complement
abbrev pub int16 : ℤ → List ℕ
int16 z = uint16 (cast_unsigned w16 z)

-- REAL, a float of 64 bits
abbrev pub real : Float → List ℕ
real x = uint64 (to_bits binary64 x)

-- bytes of 0
abbrev pub zeros : ℕ → List ℕ
zeros n = replicate n 0

-- numbers one behind another
abbrev pub uint64s : List ℕ → List ℕ
uint64s [] = []
uint64s (n ∷ ns) = uint64 n ++ uint64s ns

abbrev pub reals : List Float → List ℕ
reals [] = []
reals (x ∷ xs) = real x ++ reals xs

-- the number that stands at a place
abbrev pub uint8_at : ℕ → List ℕ → ℕ
uint8_at at bytes = slice_index bytes at

abbrev pub uint16_at : ℕ → List ℕ → ℕ
uint16_at at bytes = from_le_bytes w16 (slice_range bytes at (at + 2))

abbrev pub uint32_at : ℕ → List ℕ → ℕ
uint32_at at bytes = from_le_bytes w32 (slice_range bytes at (at + 4))

abbrev pub uint64_at : ℕ → List ℕ → ℕ
uint64_at at bytes = from_le_bytes w64 (slice_range bytes at (at + 8))

abbrev pub int16_at : ℕ → List ℕ → ℤ
int16_at at bytes = cast_signed w16 (uint16_at at bytes)

abbrev pub real_at : ℕ → List ℕ → Float
real_at at bytes = from_bits binary64 (uint64_at at bytes)

-- these numbers stand one behind another from a place on
abbrev pub AreUint64s : ℕ → List ℕ → List ℕ → Type 0
AreUint64s at bytes [] = Unit {0}
AreUint64s at bytes (n ∷ ns) = (uint64_at at bytes ≡ n) × AreUint64s (at + 8) bytes ns

abbrev pub AreReals : ℕ → List ℕ → List Float → Type 0
AreReals at bytes [] = Unit {0}
AreReals at bytes (x ∷ xs) = (x ≡ real_at at bytes) × AreReals (at + 8) bytes xs
