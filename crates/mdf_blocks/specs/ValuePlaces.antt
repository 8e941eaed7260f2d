-- Where MDF finds the value of a channel in a record (ASAM MDF 4.1, CN: cn_byte_offset,
-- cn_bit_offset, cn_bit_count and cn_data_type).
use Rattle.std.specs.Prelude.{◌≡◌, ◌==◌, ℕ, ◌+◌, ◌-◌, ◌*◌, ◌/◌, ◌%◌, ◌^◌, ◌<◌, ◌≤◌, if◌then◌else◌}
use Rattle.std.specs.Prelude.{Bool, true, false, Option, List, All, drop, from_bits, length}
use Rattle.std.specs.Prelude.{slice_range}
use Rattle.std.specs.Float.{binary32, binary64}
use Rattle.std.specs.Int.{trailing_zeros, w64}
use Rattle.measured_values.specs.Encodings.{size_of}
use Rattle.measured_values.specs.Raws.{half, number_of_bytes, raw_in, raw_value, twos_complement}
use Rattle.measured_values.specs.declared.byte_order.ByteOrder.{ByteOrder}
use Rattle.measured_values.specs.declared.byte_order.ByteOrder.TheVariants.{MsbFirst, MsbLast}
use Rattle.measured_values.specs.declared.data_type.DataType.{DataType}
use Rattle.measured_values.specs.declared.data_type.DataType.TheVariants as type
use Rattle.measured_values.specs.declared.encoding.Encoding.{Encoding}
use Rattle.measured_values.specs.declared.raw.Raw.{Raw}
use Rattle.measured_values.specs.declared.raw.Raw.TheVariants as raw
use Rattle.mdf_blocks.specs.declared.value_format.ValueFormat.{ValueFormat}
use Rattle.mdf_blocks.specs.declared.value_format.ValueFormat.TheVariants.{Float as FloatOf}
use Rattle.mdf_blocks.specs.declared.value_format.ValueFormat.TheVariants.{Signed, Unsigned}
use Rattle.mdf_blocks.specs.declared.bit_run.BitRun.{BitRun}
use Rattle.mdf_blocks.specs.declared.value_place.ValuePlace.{ValuePlace}

-- how many bytes so many bits take up, from a bit of the first byte on
abbrev pub bytes_of_bits : ℕ → ℕ → ℕ
bytes_of_bits bit count = (bit + count + 7) / 8

-- these bits, as a number: the bytes that they take up, in their order, moved down, and of that
-- the lowest
abbrev pub bits_at : ByteOrder → ℕ → ℕ → ℕ → List ℕ → ℕ
bits_at order byte bit count bytes =
    number_of_bytes order (bytes_of_bits bit count) (drop byte bytes) / 2 ^ bit % 2 ^ count

abbrev pub order_of : ValueFormat → ByteOrder
order_of (Unsigned order) = order
order_of (Signed order) = order
order_of (FloatOf order) = order

-- the raw value of so many bits
abbrev pub raw_of_bits : ValueFormat → ℕ → ℕ → Raw
raw_of_bits (Unsigned order) count n = raw.Unsigned n
raw_of_bits (Signed order) count n = raw.Signed (twos_complement (2 ^ (count - 1)) n)
raw_of_bits (FloatOf order) count n =
    if count == 16 then raw.Double (half n)
    else if count == 32 then raw.Single (from_bits binary32 n)
    else raw.Double (from_bits binary64 n)

-- the raw value that MDF finds at a place of a record
abbrev pub raw_at_place : ValuePlace → List ℕ → Raw
raw_at_place p bytes =
    raw_of_bits p.format p.bit_count
    (bits_at (order_of p.format) p.byte_offset p.bit_offset p.bit_count bytes)

-- in each record it is the raw value of the bytes that stand at a place of it
abbrev pub FindsRaw : Encoding → ℕ → ValuePlace → Type 0
FindsRaw e at p =
    (bytes : List ℕ) → All (λ b. b < 256) bytes → at + size_of e.data_type ≤ length bytes
    → raw_at_place p bytes ≡ raw_value e (slice_range bytes at (at + size_of e.data_type))

-- the same, without an operation
abbrev pub FindsMasked : DataType → ByteOrder → Option ℕ → ℕ → ValuePlace → Type 0
FindsMasked t order mask at p =
    (bytes : List ℕ) → All (λ b. b < 256) bytes → at + size_of t ≤ length bytes
    → raw_at_place p bytes
    ≡ raw_in t mask (number_of_bytes order (size_of t) (slice_range bytes at (at + size_of t)))

-- bits within a number of so many bytes, and the byte at which they begin
abbrev pub first_byte : ByteOrder → ℕ → ℕ → ℕ → ℕ
first_byte MsbLast size low count = low / 8
first_byte MsbFirst size low count = size - 1 - (low + count - 1) / 8

-- the format of all bits of a data type
abbrev pub format_of : DataType → ByteOrder → ValueFormat
format_of type.UByte order = Unsigned order
format_of type.SByte order = Signed order
format_of type.UWord order = Unsigned order
format_of type.SWord order = Signed order
format_of type.ULong order = Unsigned order
format_of type.SLong order = Signed order
format_of type.AUint64 order = Unsigned order
format_of type.AInt64 order = Signed order
format_of type.Float16 order = FloatOf order
format_of type.Float32 order = FloatOf order
format_of type.Float64 order = FloatOf order

-- a mask has no effect on these
abbrev pub is_float : DataType → Bool
is_float type.UByte = false
is_float type.SByte = false
is_float type.UWord = false
is_float type.SWord = false
is_float type.ULong = false
is_float type.SLong = false
is_float type.AUint64 = false
is_float type.AInt64 = false
is_float type.Float16 = true
is_float type.Float32 = true
is_float type.Float64 = true

-- the bits of a mask stand one beside another, within so many bytes
pub record IsRun (mask size : ℕ) (run : BitRun) : Type 0 where
  pub some : 0 < run.count
  pub within : run.low + run.count ≤ 8 * size
  pub low : run.low ≡ trailing_zeros w64 mask
  pub ones : mask / 2 ^ run.low ≡ 2 ^ run.count - 1

-- a place of bits of a number of so many bytes, from a place of the record on
pub record IsPlaceOf (format : ValueFormat) (size : ℕ) (run : BitRun) (at : ℕ) (p : ValuePlace) :
    Type 0 where
  pub format_is : p.format ≡ format
  pub byte_is : p.byte_offset ≡ at + first_byte (order_of format) size run.low run.count
  pub bit_is : p.bit_offset ≡ run.low % 8
  pub count_is : p.bit_count ≡ run.count
