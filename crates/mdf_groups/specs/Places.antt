-- Where the value of each column stands in the records of a group: among the sample's bytes if MDF
-- finds it there, or behind them (own).
use Rattle.std.specs.Prelude.{◌≡◌, ◌⊎◌, ℕ, ◌+◌, ◌≤◌, Bool, true, ◌||◌, if◌then◌else◌}
use Rattle.std.specs.Prelude.{List, [], ◌∷◌, ◌++◌, drop, length, slice_get, Contains}
use Rattle.std.specs.Prelude.{Option, Some, None}
use Rattle.measured_values.specs.Encodings.{size_of}
use Rattle.measured_values.specs.Raws.{keeps_sign}
use Rattle.measured_values.specs.declared.bit_operation.BitOperation.{BitOperation}
use Rattle.measured_values.specs.declared.byte_order.ByteOrder.TheVariants.{MsbLast}
use Rattle.measured_values.specs.declared.encoding.Encoding.{Encoding}
use Rattle.mdf_blocks.specs.ValuePlaces.{FindsRaw, is_float}
use Rattle.mdf_blocks.specs.declared.value_format.ValueFormat.TheVariants.{Signed, Unsigned}
use Rattle.mdf_blocks.specs.declared.value_place.ValuePlace.{ValuePlace}
use Rattle.mdf_groups.specs.Records.{front_len, record_len}
use Rattle.mdf_groups.specs.declared.front.Front.{Front}
use Rattle.mdf_groups.specs.declared.own_value.OwnValue.{OwnValue}
use Rattle.mdf_groups.specs.declared.placed_column.PlacedColumn.{PlacedColumn}

-- whether the raw values of an encoding are signed integers
abbrev pub signed_by : Option BitOperation → Bool → Bool
signed_by None keeps = keeps
signed_by (Some o) keeps = o.extends_sign || keeps

abbrev pub is_signed_raw : Encoding → Bool
is_signed_raw e = signed_by e.operation (keeps_sign e.data_type e.mask)

-- all bits of a value count, as they stand
abbrev pub IsPlain : Encoding → Type 0
IsPlain e =
    (is_float e.data_type ≡ true) ⊎ ((e.operation ≡ None) × (e.mask ≡ None))

-- the place behind a sample's bytes, where so many values stand before it
abbrev pub own_place : Front → ℕ → Encoding → ℕ → ValuePlace
own_place front sample_bytes e before = record {
  format = if is_signed_raw e then Signed MsbLast else Unsigned MsbLast;
  byte_offset = record_len front sample_bytes before;
  bit_offset = 0;
  bit_count = 64;
}

abbrev pub encoding_of : PlacedColumn → Encoding
encoding_of c = c.column.encoding

-- the value of a column as one that stands behind a sample's bytes
abbrev pub own_of : PlacedColumn → OwnValue
own_of c = record { encoding = encoding_of c; at = c.at }

-- MDF finds it among the sample's bytes
abbrev pub IsFound : Front → PlacedColumn → ValuePlace → Type 0
IsFound front c p = FindsRaw (encoding_of c) (front_len front + 1 + c.at) p

-- a value of which all bits count is found
abbrev pub NeedsOwn : PlacedColumn → Type 0
NeedsOwn c = IsPlain (encoding_of c) → ⊥

-- columns, their places, and the values behind a sample's bytes in the order of their columns,
-- where so many of these stand before
abbrev pub ArePlaced : Front → ℕ → ℕ → List PlacedColumn → List ValuePlace → List OwnValue → Type 0
ArePlaced front len before [] [] own = own ≡ []
ArePlaced front len before [] (p ∷ ps) own = ⊥
ArePlaced front len before (c ∷ cs) [] own = ⊥
ArePlaced front len before (c ∷ cs) (p ∷ ps) own =
    (IsFound front c p × ArePlaced front len before cs ps own)
    ⊎ (NeedsOwn c × (p ≡ own_place front len (encoding_of c) before)
    × (slice_get own 0 ≡ Some (own_of c)) × ArePlaced front len (before + 1) cs ps (drop 1 own))

-- one column more
abbrev pub AddsPlace : Front → ℕ → PlacedColumn → List OwnValue → List ValuePlace → List OwnValue
    → List ValuePlace → Type 0
AddsPlace front len c own places own' places' =
    ((p : ValuePlace) × IsFound front c p × (places' ≡ places ++ p ∷ []) × (own' ≡ own))
    ⊎ (NeedsOwn c × (places' ≡ places ++ own_place front len (encoding_of c) (length own) ∷ [])
    × (own' ≡ own ++ own_of c ∷ []))

-- the bytes of a column lie in a sample of so many
abbrev pub ColumnLiesIn : ℕ → PlacedColumn → Type 0
ColumnLiesIn len c = c.at + size_of (encoding_of c).data_type ≤ len

-- those of one of them don't
abbrev pub SomeOutside : ℕ → List PlacedColumn → Type 0
SomeOutside len columns = (c : PlacedColumn) × Contains columns c × (ColumnLiesIn len c → ⊥)
