-- What fits the fields of the blocks.
use Rattle.std.specs.Prelude.{ℕ, ◌^◌, ◌<◌, List, All, length, Option, Some, None, FitsSigned}
use Rattle.std.specs.Prelude.{IsTrue}
use Rattle.std.specs.Int.{w16}
use Rattle.mdf_blocks.specs.Tables.{daylight_minutes, zone_minutes}
use Rattle.std.specs.Float.{Float, binary64}
use Rattle.std.specs.Float.Ieee.{fits}
use Rattle.mdf_blocks.specs.Records.{offsets_of}
use Rattle.mdf_blocks.specs.declared.channel.Channel.{Channel}
use Rattle.mdf_blocks.specs.declared.channel_group.ChannelGroup.{ChannelGroup}
use Rattle.mdf_blocks.specs.declared.file_header.FileHeader.{FileHeader}
use Rattle.mdf_blocks.specs.declared.listed_data.ListedData.{ListedData}
use Rattle.mdf_blocks.specs.declared.time.Time.{Time}
use Rattle.measured_values.specs.declared.value_limits.ValueLimits.{ValueLimits}

-- a float of 64 bits
abbrev pub IsReal : Float → Type 0
IsReal x = IsTrue (fits binary64 x)

pub record FitsTime (t : Time) : Type 0 where
  pub nanoseconds : t.nanoseconds < 2 ^ 64
  pub zone : FitsSigned w16 (zone_minutes t.zone)
  pub daylight : FitsSigned w16 (daylight_minutes t.zone)

pub record FitsHeader (h : FileHeader) : Type 0 where
  pub first_group : h.first_group < 2 ^ 64
  pub first_history : h.first_history < 2 ^ 64
  pub comment : h.comment < 2 ^ 64
  pub start : FitsTime h.start

abbrev pub FitsLimits : Option ValueLimits → Type 0
FitsLimits None = Unit {0}
FitsLimits (Some limits) = IsReal limits.least × IsReal limits.greatest

pub record FitsGroup (g : ChannelGroup) : Type 0 where
  pub cycles : g.cycles < 2 ^ 64
  pub record_bytes : g.record_bytes < 2 ^ 32

pub record FitsChannel (c : Channel) : Type 0 where
  pub byte_offset : c.byte_offset < 2 ^ 32
  pub bit_count : c.bit_count < 2 ^ 32
  pub limits : FitsLimits c.limits

pub record FitsConversion (references : List ℕ) (values : List Float) : Type 0 where
  pub few_texts : length references < 2 ^ 16
  pub few_values : length values < 2 ^ 16
  pub reals : All IsReal values

pub record FitsList (blocks : List ListedData) : Type 0 where
  pub few : length blocks < 2 ^ 32
  pub offsets : All (λ n. n < 2 ^ 64) (offsets_of blocks)
