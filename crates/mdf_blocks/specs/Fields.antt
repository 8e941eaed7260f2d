-- What the links and the data section of a block say, by the places of the fields (ASAM MDF 4.1):
-- the number of a link, and the offset of a field in the data section.
use Rattle.std.specs.Prelude.{◌≡◌, ℕ, List, [], ◌∷◌, drop, length}
use Rattle.std.specs.Prelude.{codes, slice_index, slice_range, Option, Some, None}
use Rattle.std.specs.Float.{Float}
use Rattle.mdf_blocks.specs.Conversions.{cc_type}
use Rattle.mdf_blocks.specs.Numbers.{AreReals, AreUint64s, int16_at, uint16_at, uint32_at}
use Rattle.mdf_blocks.specs.Numbers.{uint64_at}
use Rattle.mdf_blocks.specs.Numbers.{uint8_at}
use Rattle.mdf_blocks.specs.Records.{offsets_of, places_of}
use Rattle.mdf_blocks.specs.Tables.{cn_data_type, cn_sync_type, cn_type, daylight_minutes}
use Rattle.mdf_blocks.specs.Tables.{file_id, time_flags, unfinished_flags, zone_minutes}
use Rattle.mdf_blocks.specs.declared.file_state.FileState.{FileState}
use Rattle.mdf_blocks.specs.declared.channel.Channel.{Channel}
use Rattle.mdf_blocks.specs.declared.channel_group.ChannelGroup.{ChannelGroup}
use Rattle.mdf_blocks.specs.declared.conversion_kind.ConversionKind.{ConversionKind}
use Rattle.mdf_blocks.specs.declared.data_group.DataGroup.{DataGroup}
use Rattle.mdf_blocks.specs.declared.file_header.FileHeader.{FileHeader}
use Rattle.mdf_blocks.specs.declared.file_history.FileHistory.{FileHistory}
use Rattle.mdf_blocks.specs.declared.listed_data.ListedData.{ListedData}
use Rattle.mdf_blocks.specs.declared.time.Time.{Time}
use Rattle.measured_values.specs.declared.value_limits.ValueLimits.{ValueLimits}

-- ID: whether the file is finished, and its version
pub record SaysState (bytes : List ℕ) (state : FileState) : Type 0 where
  pub file : slice_range bytes 0 8 ≡ file_id state
  pub version : slice_range bytes 8 16 ≡ codes "4.10    "
  pub number : uint16_at 28 bytes ≡ 410
  pub flags : uint16_at 60 bytes ≡ unfinished_flags state

-- a time: hd_start_time_ns to hd_time_flags, and the same of FH
pub record SaysTime (body : List ℕ) (time : Time) : Type 0 where
  pub nanoseconds : uint64_at 0 body ≡ time.nanoseconds
  pub zone : int16_at 8 body ≡ zone_minutes time.zone
  pub daylight : int16_at 10 body ≡ daylight_minutes time.zone
  pub flags : uint8_at 12 body ≡ time_flags time.zone

-- HD
pub record SaysHeader (links body : List ℕ) (h : FileHeader) : Type 0 where
  pub first_group : slice_index links 0 ≡ h.first_group
  pub first_history : slice_index links 1 ≡ h.first_history
  pub comment : slice_index links 5 ≡ h.comment
  pub start : SaysTime body h.start

-- FH
pub record SaysHistory (links body : List ℕ) (h : FileHistory) : Type 0 where
  pub next : slice_index links 0 ≡ h.next
  pub comment : slice_index links 1 ≡ h.comment
  pub time : SaysTime body h.time

-- DG, whose records have no id
pub record SaysDataGroup (links body : List ℕ) (g : DataGroup) : Type 0 where
  pub next : slice_index links 0 ≡ g.next
  pub channel_group : slice_index links 1 ≡ g.channel_group
  pub records : slice_index links 2 ≡ g.records
  pub comment : slice_index links 3 ≡ g.comment
  pub no_id : uint8_at 0 body ≡ 0

-- CG, the only one of its data group, whose records have no bytes of invalidation bits
pub record SaysChannelGroup (links body : List ℕ) (g : ChannelGroup) : Type 0 where
  pub only : slice_index links 0 ≡ 0
  pub first_channel : slice_index links 1 ≡ g.first_channel
  pub acquisition_name : slice_index links 2 ≡ g.acquisition_name
  pub comment : slice_index links 5 ≡ g.comment
  pub cycles : uint64_at 8 body ≡ g.cycles
  pub flags : uint16_at 16 body ≡ 0
  pub record_bytes : uint32_at 24 body ≡ g.record_bytes
  pub no_invalid : uint32_at 28 body ≡ 0

-- cn_flags, and cn_limit_min and cn_limit_max if these are valid
abbrev pub SaysLimits : List ℕ → Option ValueLimits → Type 0
SaysLimits body None = uint32_at 12 body ≡ 0
SaysLimits body (Some limits) =
    (uint32_at 12 body ≡ 16) × AreReals 40 body (limits.least ∷ limits.greatest ∷ [])

-- CN
pub record SaysChannel (links body : List ℕ) (c : Channel) : Type 0 where
  pub next : slice_index links 0 ≡ c.next
  pub alone : slice_index links 1 ≡ 0
  pub name : slice_index links 2 ≡ c.name
  pub conversion : slice_index links 4 ≡ c.conversion
  pub unit : slice_index links 6 ≡ c.unit
  pub comment : slice_index links 7 ≡ c.comment
  pub kind : uint8_at 0 body ≡ cn_type c.kind
  pub sync : uint8_at 1 body ≡ cn_sync_type c.kind
  pub format : uint8_at 2 body ≡ cn_data_type c.format
  pub bit_offset : uint8_at 3 body ≡ c.bit_offset
  pub byte_offset : uint32_at 4 body ≡ c.byte_offset
  pub bit_count : uint32_at 8 body ≡ c.bit_count
  pub limits : SaysLimits body c.limits

-- CC
pub record SaysConversion (links body : List ℕ) (kind : ConversionKind) (unit : ℕ)
    (references : List ℕ) (values : List Float)
    : Type 0 where
  pub unit_is : slice_index links 1 ≡ unit
  pub texts : drop 4 links ≡ references
  pub kind_is : uint8_at 0 body ≡ cc_type kind
  pub text_count : uint16_at 4 body ≡ length references
  pub value_count : uint16_at 6 body ≡ length values
  pub values_are : AreReals 24 body values

-- DL, with an offset of each block
pub record SaysList (links body : List ℕ) (next : ℕ) (blocks : List ListedData) : Type 0 where
  pub next_is : slice_index links 0 ≡ next
  pub places : drop 1 links ≡ places_of blocks
  pub flags : uint8_at 0 body ≡ 0
  pub count : uint32_at 4 body ≡ length blocks
  pub offsets : AreUint64s 8 body (offsets_of blocks)
