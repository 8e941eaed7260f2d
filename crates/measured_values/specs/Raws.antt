-- The raw value of bytes, and the number of a raw value (ASAM MCD-2 MC, MEASUREMENT: data types,
-- BYTE_ORDER, BIT_MASK and BIT_OPERATION).
use Rattle.std.specs.Prelude.{◌≡◌, ◌⊎◌, ◌==◌, ℕ, ◌+◌, ◌-◌, ◌*◌, ◌/◌, ◌%◌, ◌^◌, ℤ, pos, ◌-ℤ◌}
use Rattle.std.specs.Prelude.{if◌then◌else◌, bit_and, from_bits, Option, Some, None, List}
use Rattle.std.specs.Prelude.{slice_index, nat_lt, Bool, true, false, ◌||◌}
use Rattle.std.specs.Int.{leading_zeros, sum_through, trailing_zeros, w64}
use Rattle.std.specs.Float.{Float, binary32, binary64, inf, nan}
use Rattle.std.specs.Float.Ieee.{div, neg, of_int}
use Rattle.measured_values.specs.Encodings.{size_of}
use Rattle.measured_values.specs.declared.bit_operation.BitOperation.{BitOperation}
use Rattle.measured_values.specs.declared.byte_order.ByteOrder.{ByteOrder}
use Rattle.measured_values.specs.declared.byte_order.ByteOrder.TheVariants.{MsbFirst, MsbLast}
use Rattle.measured_values.specs.declared.data_type.DataType.{DataType}
use Rattle.measured_values.specs.declared.data_type.DataType.TheVariants.{AInt64, AUint64, Float16}
use Rattle.measured_values.specs.declared.data_type.DataType.TheVariants.{Float32, Float64, SByte}
use Rattle.measured_values.specs.declared.data_type.DataType.TheVariants.{SLong, SWord}
use Rattle.measured_values.specs.declared.data_type.DataType.TheVariants.{UByte, ULong, UWord}
use Rattle.measured_values.specs.declared.encoding.Encoding.{Encoding}
use Rattle.measured_values.specs.declared.raw.Raw.{Raw}
use Rattle.measured_values.specs.declared.raw.Raw.TheVariants.{Double, Signed, Single, Unsigned}

-- how many bytes a value may have
abbrev pub IsSize : ℕ → Type 0
IsSize n = (n ≡ 1) ⊎ ((n ≡ 2) ⊎ ((n ≡ 4) ⊎ (n ≡ 8)))

-- the power of 256 that the byte at place i of n bytes is worth
abbrev pub power_at : ByteOrder → ℕ → ℕ → ℕ
power_at MsbLast n i = i
power_at MsbFirst n i = n - 1 - i

-- the unsigned number of n bytes: each byte is worth the power of its place
abbrev pub number_of_bytes : ByteOrder → ℕ → List ℕ → ℕ
number_of_bytes order n bytes =
    sum_through (λ i. slice_index bytes i * 256 ^ power_at order n i) (n - 1)

-- two's complement: the highest bit, which is worth `half`, counts as -half
abbrev pub twos_complement : ℕ → ℕ → ℤ
twos_complement half n = if nat_lt n half then pos n else pos n -ℤ pos (2 * half)

-- the bits of a mask, the lowest of them as bit 0
abbrev pub masked : ℕ → ℕ → ℕ
masked mask n = bit_and n mask / 2 ^ trailing_zeros w64 mask

abbrev pub unsigned_in : Option ℕ → ℕ → Raw
unsigned_in (Some mask) n = Unsigned (masked mask n)
unsigned_in None n = Unsigned n

abbrev pub signed_in : ℕ → Option ℕ → ℕ → Raw
signed_in half (Some mask) n = Unsigned (masked mask n)
signed_in half None n = Signed (twos_complement half n)

-- the exponent and the fraction of a float of 16 bits (IEEE 754, binary16), as they stand in it
abbrev pub half_exponent : ℕ → ℕ
half_exponent n = n / 2 ^ 10 % 2 ^ 5

abbrev pub half_fraction : ℕ → ℕ
half_fraction n = n % 2 ^ 10

-- how many times 2 ^ -24 it is, without its sign: a hidden bit stands before the fraction, unless
-- the exponent is 0
abbrev pub half_units : ℕ → ℕ → ℕ
half_units exponent fraction =
    if exponent == 0 then fraction else (2 ^ 10 + fraction) * 2 ^ (exponent - 1)

-- without its sign: the exponent of all ones is that of the infinities and of no number
abbrev pub half_size : ℕ → ℕ → Float
half_size exponent fraction =
    if exponent == 31 then (if fraction == 0 then inf false else nan)
    else div binary64 (of_int binary64 (pos (half_units exponent fraction)))
    (of_int binary64 (pos (2 ^ 24)))

-- a float of 16 bits, whose highest bit is that of the sign
abbrev pub half : ℕ → Float
half n =
    if n / 2 ^ 15 == 0 then half_size (half_exponent n) (half_fraction n)
    else neg (half_size (half_exponent n) (half_fraction n))

-- the raw value of a number, by data type and mask alone
abbrev pub raw_in : DataType → Option ℕ → ℕ → Raw
raw_in UByte mask n = unsigned_in mask n
raw_in SByte mask n = signed_in (2 ^ 7) mask n
raw_in UWord mask n = unsigned_in mask n
raw_in SWord mask n = signed_in (2 ^ 15) mask n
raw_in ULong mask n = unsigned_in mask n
raw_in SLong mask n = signed_in (2 ^ 31) mask n
raw_in AUint64 mask n = unsigned_in mask n
raw_in AInt64 mask n = signed_in (2 ^ 63) mask n
raw_in Float16 mask n = Double (half n)
raw_in Float32 mask n = Single (from_bits binary32 n)
raw_in Float64 mask n = Double (from_bits binary64 n)

-- the bits that count of a data type: those of the mask, or all
abbrev pub mask_in : DataType → Option ℕ → ℕ
mask_in t None = 256 ^ size_of t - 1
mask_in t (Some mask) = bit_and mask (256 ^ size_of t - 1)

-- LEFT_SHIFT and RIGHT_SHIFT: bits moved up and then down, within 64 bits; what is moved out of
-- them is lost (own)
abbrev pub moved : BitOperation → ℕ → ℕ
moved o n = n * 2 ^ o.left % 2 ^ 64 / 2 ^ o.right

-- what the highest bit is worth that is set in a number; of 0 it is 1
abbrev pub highest_bit : ℕ → ℕ
highest_bit n = 2 ^ (63 - leading_zeros w64 n)

-- SIGN_EXTEND: the bit that is worth `sign` is copied to all bits above it, so it counts as -sign
abbrev pub sign_extended : ℕ → ℕ → ℤ
sign_extended sign n =
    if n / sign % 2 == 0 then pos (n % sign) else pos (n % sign) -ℤ pos sign

-- BIT_OPERATION behind a mask: its bits are taken, then moved, and then the sign is extended from
-- the highest bit of the mask, which was moved with them; nothing else moves
abbrev pub operated : BitOperation → Bool → ℕ → ℕ → Raw
operated o signed mask n =
    if signed
    then Signed (sign_extended (highest_bit (moved o mask)) (moved o (bit_and n mask)))
    else Unsigned (moved o (bit_and n mask))

abbrev pub is_signed : DataType → Bool
is_signed UByte = false
is_signed SByte = true
is_signed UWord = false
is_signed SWord = true
is_signed ULong = false
is_signed SLong = true
is_signed AUint64 = false
is_signed AInt64 = true
is_signed Float16 = false
is_signed Float32 = false
is_signed Float64 = false

-- without a mask a signed type keeps its sign (own)
abbrev pub keeps_sign : DataType → Option ℕ → Bool
keeps_sign t None = is_signed t
keeps_sign t (Some mask) = false

-- an integer's bits, behind BIT_OPERATION
abbrev pub operated_in : BitOperation → DataType → Option ℕ → ℕ → Raw
operated_in o t mask n = operated o (o.extends_sign || keeps_sign t mask) (mask_in t mask) n

-- the raw value of a number behind BIT_OPERATION, which has no effect on a float
abbrev pub raw_with : BitOperation → DataType → Option ℕ → ℕ → Raw
raw_with o UByte mask n = operated_in o UByte mask n
raw_with o SByte mask n = operated_in o SByte mask n
raw_with o UWord mask n = operated_in o UWord mask n
raw_with o SWord mask n = operated_in o SWord mask n
raw_with o ULong mask n = operated_in o ULong mask n
raw_with o SLong mask n = operated_in o SLong mask n
raw_with o AUint64 mask n = operated_in o AUint64 mask n
raw_with o AInt64 mask n = operated_in o AInt64 mask n
raw_with o Float16 mask n = raw_in Float16 mask n
raw_with o Float32 mask n = raw_in Float32 mask n
raw_with o Float64 mask n = raw_in Float64 mask n

abbrev pub raw_by : Option BitOperation → DataType → Option ℕ → ℕ → Raw
raw_by None t mask n = raw_in t mask n
raw_by (Some o) t mask n = raw_with o t mask n

-- the raw value of as many bytes as the data type has
abbrev pub raw_value : Encoding → List ℕ → Raw
raw_value e bytes =
    raw_by e.operation e.data_type e.mask
    (number_of_bytes e.order (size_of e.data_type) bytes)

-- the nearest float of 64 bits
abbrev pub number_of_raw : Raw → Float
number_of_raw (Unsigned n) = of_int binary64 (pos n)
number_of_raw (Signed z) = of_int binary64 z
number_of_raw (Single x) = x
number_of_raw (Double x) = x
