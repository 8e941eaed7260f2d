-- The record of a sample (own): what it begins with, a mark, the sample's bytes as they came, and
-- the values that MDF can't find among these.
use Rattle.std.specs.Prelude.{◌≡◌, ℕ, ◌+◌, ◌*◌, ◌≤◌, Bool, true, false}
use Rattle.std.specs.Prelude.{List, [], ◌++◌, slice_range}
use Rattle.std.specs.List.{flat_map}
use Rattle.std.specs.Int.{cast_unsigned, w64}
use Rattle.measured_values.specs.Encodings.{size_of}
use Rattle.measured_values.specs.Raws.{raw_value}
use Rattle.measured_values.specs.declared.raw.Raw.{Raw}
use Rattle.measured_values.specs.declared.raw.Raw.TheVariants as raw
use Rattle.mdf_blocks.specs.Numbers.{real, uint64, uint8}
use Rattle.mdf_blocks.specs.declared.value_place.ValuePlace.{ValuePlace}
use Rattle.mdf_groups.specs.declared.front.Front.{Front}
use Rattle.mdf_groups.specs.declared.front.Front.TheVariants as front
use Rattle.mdf_groups.specs.declared.own_value.OwnValue.{OwnValue}
use Rattle.mdf_groups.specs.declared.record_time.RecordTime.{RecordTime}
use Rattle.mdf_groups.specs.declared.record_time.RecordTime.TheVariants as time

-- how many bytes stand in front of the mark
abbrev pub front_len : Front → ℕ
front_len front.Seconds = 8
front_len front.Ticks = 8
front_len front.Nothing = 0

abbrev pub record_len : Front → ℕ → ℕ → ℕ
record_len front sample_bytes own = front_len front + 1 + sample_bytes + 8 * own

-- what the records of a group consist of: the values behind a sample's bytes, and where MDF finds
-- the value of each column
pub record FormOf : Type 0 where
  pub front : Front
  pub sample_bytes : ℕ
  pub own : List OwnValue
  pub places : List ValuePlace

-- a record that begins so has a time of this kind
abbrev pub is_time_for : Front → RecordTime → Bool
is_time_for front.Seconds (time.Seconds x) = true
is_time_for front.Seconds (time.Ticks n) = false
is_time_for front.Seconds time.Unknown = false
is_time_for front.Ticks (time.Seconds x) = false
is_time_for front.Ticks (time.Ticks n) = true
is_time_for front.Ticks time.Unknown = false
is_time_for front.Nothing (time.Seconds x) = false
is_time_for front.Nothing (time.Ticks n) = false
is_time_for front.Nothing time.Unknown = true

abbrev pub IsTimeFor : Front → RecordTime → Type 0
IsTimeFor front at = is_time_for front at ≡ true

abbrev pub time_bytes : RecordTime → List ℕ
time_bytes (time.Seconds x) = real x
time_bytes (time.Ticks n) = uint64 n
time_bytes time.Unknown = []

-- a raw value as a whole number, modulo 2 ^ 64; a float is none
abbrev pub whole_number : Raw → ℕ
whole_number (raw.Unsigned n) = n
whole_number (raw.Signed z) = cast_unsigned w64 z
whole_number (raw.Single x) = 0
whole_number (raw.Double x) = 0

-- the raw value of bytes of a sample
abbrev pub own_raw : List ℕ → OwnValue → Raw
own_raw sample v =
    raw_value v.encoding (slice_range sample v.at (v.at + size_of v.encoding.data_type))

abbrev pub own_bytes : List ℕ → OwnValue → List ℕ
own_bytes sample v = uint64 (whole_number (own_raw sample v))

-- the bytes of a value lie among so many
abbrev pub LiesIn : ℕ → OwnValue → Type 0
LiesIn len v = v.at + size_of v.encoding.data_type ≤ len

-- the record of a sample
abbrev pub record_of : List OwnValue → RecordTime → ℕ → List ℕ → List ℕ
record_of own at mark sample =
    time_bytes at ++ uint8 mark ++ sample ++ flat_map (own_bytes sample) own
