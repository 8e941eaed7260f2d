-- What MDF finds in the records of a group, and their times.
use Rattle.std.specs.Prelude.{◌≡◌, ℕ, ◌+◌, ◌^◌, ◌≤◌, ◌<◌, FitsSigned, false, List, All}
use Rattle.std.specs.Prelude.{length, slice_get, slice_range, Some}
use Rattle.std.specs.Float.{Float, NotNan}
use Rattle.std.specs.Float.Ieee.{lt}
use Rattle.std.specs.Int.{w8}
use Rattle.measured_values.specs.Encodings.{size_of}
use Rattle.measured_values.specs.Raws.{raw_value}
use Rattle.measured_values.specs.declared.raw.Raw.{Raw}
use Rattle.measured_values.specs.declared.tick.Tick.{Tick}
use Rattle.mdf_blocks.specs.Told.{ToldChannel}
use Rattle.mdf_blocks.specs.ValuePlaces.{raw_at_place}
use Rattle.mdf_blocks.specs.declared.value_place.ValuePlace.{ValuePlace}
use Rattle.mdf_groups.specs.Channels.{AreChannels, front_names}
use Rattle.mdf_groups.specs.Places.{ArePlaced, ColumnLiesIn, encoding_of}
use Rattle.mdf_groups.specs.Records.{FormOf, IsTimeFor, record_len, record_of}
use Rattle.mdf_groups.specs.Times.{risen, seconds_of}
use Rattle.mdf_groups.specs.declared.placed_column.PlacedColumn.{PlacedColumn}
use Rattle.mdf_groups.specs.declared.record_time.RecordTime.{RecordTime}

-- the raw value of a column in a sample
abbrev pub column_raw : PlacedColumn → List ℕ → Raw
column_raw c sample =
    raw_value (encoding_of c)
    (slice_range sample c.at (c.at + size_of (encoding_of c).data_type))

-- in the record of a sample MDF finds at the place of each column its raw value, whether it stands
-- among the sample's bytes or behind them
abbrev pub FindsEach : Type 0
FindsEach =
    (form : FormOf) (columns : List PlacedColumn) (at : RecordTime) (mark : ℕ) (sample : List ℕ)
    (i : ℕ) (c : PlacedColumn) (p : ValuePlace)
    → ArePlaced form.front form.sample_bytes 0 columns form.places form.own
    → All (ColumnLiesIn form.sample_bytes) columns → IsTimeFor form.front at → mark < 256
    → All (λ b. b < 256) sample → length sample ≡ form.sample_bytes
    → slice_get columns i ≡ Some c → slice_get form.places i ≡ Some p
    → raw_at_place p (record_of form.own at mark sample) ≡ column_raw c sample

-- where a channel has its values
abbrev pub place_of : ToldChannel → ValuePlace
place_of t = record {
  format = t.format;
  byte_offset = t.byte_offset;
  bit_offset = t.bit_offset;
  bit_count = t.bit_count;
}

-- and so by the channel of a column, which stands behind those of the front
abbrev pub FindsByChannel : Type 0
FindsByChannel =
    (form : FormOf) (columns : List PlacedColumn) (channels : List ToldChannel)
    (at : RecordTime) (mark : ℕ) (sample : List ℕ) (i : ℕ) (c : PlacedColumn) (t : ToldChannel)
    → ArePlaced form.front form.sample_bytes 0 columns form.places form.own
    → All (ColumnLiesIn form.sample_bytes) columns → AreChannels form columns channels
    → IsTimeFor form.front at → mark < 256 → All (λ b. b < 256) sample
    → length sample ≡ form.sample_bytes → slice_get columns i ≡ Some c
    → slice_get channels (length (front_names form.front) + i) ≡ Some t
    → raw_at_place (place_of t) (record_of form.own at mark sample) ≡ column_raw c sample

-- all records of a group have the same number of bytes
abbrev pub HaveOneLength : Type 0
HaveOneLength =
    (form : FormOf) (at : RecordTime) (mark : ℕ) (sample : List ℕ) → IsTimeFor form.front at
    → length sample ≡ form.sample_bytes
    → length (record_of form.own at mark sample)
    ≡ record_len form.front form.sample_bytes (length form.own)

-- of two counts of ticks, the later one is never shown earlier: no rounding puts it in front
abbrev pub SecondsNeverFall : Type 0
SecondsNeverFall =
    (tick : Tick) (m n : ℕ) → m ≤ n → lt (seconds_of n tick) (seconds_of m tick) ≡ false

-- a count of 64 bits of ticks, however long these are, is shown as a number
abbrev pub SecondsAreNumbers : Type 0
SecondsAreNumbers =
    (tick : Tick) (n : ℕ) → n < 2 ^ 64 → tick.mantissa < 2 ^ 32 → FitsSigned w8 tick.exponent
    → NotNan (seconds_of n tick)

-- the time of a sample is never less than the one before
abbrev pub RisenNeverFalls : Type 0
RisenNeverFalls = (last now : Float) → lt (risen last now) last ≡ false
