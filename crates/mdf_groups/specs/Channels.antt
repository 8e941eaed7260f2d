-- The channels of a group (ASAM MDF 4.1, CN), as a file that is written of them tells them.
use Rattle.std.specs.Prelude.{◌≡◌, ℕ, Bool, true, false, not, pos}
use Rattle.std.specs.Prelude.{List, [], ◌∷◌, ◌++◌, codes, length, map, take, drop, slice_get}
use Rattle.std.specs.Prelude.{slice_index_or, string_bytes, Option, Some, None}
use Rattle.std.specs.Option.{option_map}
use Rattle.std.specs.Float.{Float, binary64}
use Rattle.std.specs.Float.Ieee.{of_int}
use Rattle.measured_values.specs.declared.byte_order.ByteOrder.TheVariants.{MsbLast}
use Rattle.measured_values.specs.declared.conversion.Conversion.{Conversion}
use Rattle.measured_values.specs.declared.conversion.Conversion.TheVariants as conversion
use Rattle.measured_values.specs.declared.data_type.DataType.{DataType}
use Rattle.measured_values.specs.declared.text_table.TextTable.{TextTable}
use Rattle.measured_values.specs.declared.value_limits.ValueLimits.{ValueLimits}
use Rattle.mdf_blocks.specs.Rules.{IsRule, bounds_of, keys_of}
use Rattle.mdf_blocks.specs.Told.{ToldChannel, ToldConversion}
use Rattle.mdf_blocks.specs.ValuePlaces.{is_float}
use Rattle.mdf_blocks.specs.declared.axis.Axis.TheVariants.{Index, Time}
use Rattle.mdf_blocks.specs.declared.channel_kind.ChannelKind.{ChannelKind}
use Rattle.mdf_blocks.specs.declared.channel_kind.ChannelKind.TheVariants as kind
use Rattle.mdf_blocks.specs.declared.conversion_kind.ConversionKind.{ConversionKind}
use Rattle.mdf_blocks.specs.declared.conversion_kind.ConversionKind.TheVariants as by
use Rattle.mdf_blocks.specs.declared.placed_text.PlacedText.{PlacedText}
use Rattle.mdf_blocks.specs.declared.rule.Rule.{Rule}
use Rattle.mdf_blocks.specs.declared.rule.Rule.TheVariants as rule
use Rattle.mdf_blocks.specs.declared.value_format.ValueFormat.TheVariants.{Float as FloatOf}
use Rattle.mdf_blocks.specs.declared.value_format.ValueFormat.TheVariants.{Unsigned}
use Rattle.mdf_blocks.specs.declared.value_place.ValuePlace.{ValuePlace}
use Rattle.value_tables.specs.Values.{conversion_of}
use Rattle.value_tables.specs.declared.column.Column.{Column}
use Rattle.mdf_groups.specs.Names.{AreNames}
use Rattle.mdf_groups.specs.Records.{FormOf}
use Rattle.mdf_groups.specs.declared.front.Front.{Front}
use Rattle.mdf_groups.specs.declared.front.Front.TheVariants as front
use Rattle.mdf_groups.specs.declared.placed_column.PlacedColumn.{PlacedColumn}

-- a channel whose values stand at a place
abbrev pub channel_at : List ℕ → Option (List ℕ) → Option ToldConversion → ChannelKind → ValuePlace
    → ToldChannel
channel_at name unit conversion kind place = record {
  name = Some name;
  unit = unit;
  comment = None;
  conversion = conversion;
  kind = kind;
  format = place.format;
  bit_offset = place.bit_offset;
  byte_offset = place.byte_offset;
  bit_count = place.bit_count;
  limits = None;
}

-- a channel with a comment and limits
abbrev pub described : Option (List ℕ) → Option ValueLimits → ToldChannel → ToldChannel
described comment limits t = record {
  name = t.name;
  unit = t.unit;
  comment = comment;
  conversion = t.conversion;
  kind = t.kind;
  format = t.format;
  bit_offset = t.bit_offset;
  byte_offset = t.byte_offset;
  bit_count = t.bit_count;
  limits = limits;
}

-- the place of an unsigned number of so many bits
abbrev pub integer_place : ℕ → ℕ → ValuePlace
integer_place byte_offset bit_count = record {
  format = Unsigned MsbLast;
  byte_offset = byte_offset;
  bit_offset = 0;
  bit_count = bit_count;
}

-- the place of the time in seconds
abbrev pub time_place : ValuePlace
time_place = record {
  format = FloatOf MsbLast;
  byte_offset = 0;
  bit_offset = 0;
  bit_count = 64;
}

abbrev pub time_channel : List ℕ → ToldChannel
time_channel name = channel_at name (Some (codes "s")) None (kind.Master Time) time_place

-- the number of the sample, which has no bytes
abbrev pub index_channel : List ℕ → ToldChannel
index_channel name =
    channel_at name None None (kind.VirtualMaster Index) (integer_place 0 0)

abbrev pub ticks_channel : List ℕ → ToldChannel
ticks_channel name = channel_at name None None kind.Value (integer_place 0 64)

abbrev pub key : ℕ → Float
key n = of_int binary64 (pos n)

-- what the marks say
abbrev pub marks : ToldConversion
marks = record {
  kind = by.ValuesToTexts;
  values = key 0 ∷ key 1 ∷ key 2 ∷ key 3 ∷ [];
  texts = Some (codes "none") ∷ Some (codes "overload") ∷ Some (codes "gap")
      ∷ Some (codes "overload and gap") ∷ None ∷ [];
}

-- the mark, behind a front of so many bytes
abbrev pub mark_channel : ℕ → List ℕ → ToldChannel
mark_channel front_bytes name =
    channel_at name None (Some marks) kind.Value (integer_place front_bytes 8)

-- the names of the channels before those of the columns, if no column has them
abbrev pub front_names : Front → List (List ℕ)
front_names front.Seconds = codes "t" ∷ codes "overload" ∷ []
front_names front.Ticks = codes "index" ∷ codes "ticks" ∷ codes "overload" ∷ []
front_names front.Nothing = codes "index" ∷ codes "overload" ∷ []

abbrev pub name_at : List (List ℕ) → ℕ → List ℕ
name_at names i = slice_index_or names i []

-- these channels, by their names
abbrev pub front_channels : Front → List (List ℕ) → List ToldChannel
front_channels front.Seconds names =
    time_channel (name_at names 0) ∷ mark_channel 8 (name_at names 1) ∷ []
front_channels front.Ticks names =
    index_channel (name_at names 0) ∷ ticks_channel (name_at names 1)
    ∷ mark_channel 8 (name_at names 2) ∷ []
front_channels front.Nothing names =
    index_channel (name_at names 0) ∷ mark_channel 0 (name_at names 1) ∷ []

-- whether the raw values of a data type are integers
abbrev pub is_whole : DataType → Bool
is_whole t = not (is_float t)

-- a text, unless it is empty
abbrev pub text_or_none : List ℕ → Option (List ℕ)
text_or_none [] = None
text_or_none (c ∷ cs) = Some (c ∷ cs)

-- the unit is that of the physical values, or that of the raw ones where MDF has no such conversion
abbrev pub unit_by : List ℕ → Rule → Option (List ℕ)
unit_by unit rule.Identical = text_or_none unit
unit_by unit (rule.Linear numbers) = text_or_none unit
unit_by unit (rule.Rational numbers) = text_or_none unit
unit_by unit (rule.Values ps) = text_or_none unit
unit_by unit (rule.Ranges ps) = text_or_none unit
unit_by unit rule.Lost = Some (codes "raw")

-- limits are physical values: where MDF has no such conversion, the raw ones have none
abbrev pub limits_by : Option ValueLimits → Rule → Option ValueLimits
limits_by limits rule.Identical = limits
limits_by limits (rule.Linear numbers) = limits
limits_by limits (rule.Rational numbers) = limits
limits_by limits (rule.Values ps) = limits
limits_by limits (rule.Ranges ps) = limits
limits_by limits rule.Lost = None

-- the texts of places, and that of all other values
abbrev pub row_text : TextTable → ℕ → Option (List ℕ)
row_text table row = option_map (λ r. string_bytes r.text) (slice_get table.rows.items row)

abbrev pub table_texts : TextTable → List PlacedText → List (Option (List ℕ))
table_texts table ps =
    map (λ p. row_text table p.row) ps ++ option_map string_bytes table.other ∷ []

abbrev pub texts_by : Conversion → List PlacedText → List (Option (List ℕ))
texts_by conversion.Identical ps = []
texts_by (conversion.Linear factor offset) ps = []
texts_by (conversion.Rational b c f) ps = []
texts_by (conversion.Texts table) ps = table_texts table ps
texts_by conversion.Other ps = []

-- the conversion that a file is to have, by MDF's rule of it
abbrev pub told_by : ConversionKind → List Float → List (Option (List ℕ)) → ToldConversion
told_by kind values texts = record {
  kind = kind;
  values = values;
  texts = texts;
}

abbrev pub conversion_by : Conversion → Rule → Option ToldConversion
conversion_by c rule.Identical = None
conversion_by c (rule.Linear numbers) = Some (told_by by.Linear numbers [])
conversion_by c (rule.Rational numbers) = Some (told_by by.Rational numbers [])
conversion_by c (rule.Values ps) =
    Some (told_by by.ValuesToTexts (keys_of ps.items) (texts_by c ps.items))
conversion_by c (rule.Ranges ps) =
    Some (told_by by.RangesToTexts (bounds_of ps.items) (texts_by c ps.items))
conversion_by c rule.Lost = None

-- MDF's rule of the conversion of a column
abbrev pub IsRuleOf : Column → Rule → Type 0
IsRuleOf c it = IsRule (conversion_of c) (is_whole c.encoding.data_type) it

-- the channel of a column, at the place of its values: its comment is the long identifier
abbrev pub IsColumnChannel : Column → ValuePlace → List ℕ → ToldChannel → Type 0
IsColumnChannel c place name told =
    (it : Rule) × IsRuleOf c it
    × (told ≡ described (text_or_none c.identifier.now) (limits_by c.limits it)
    (channel_at name (unit_by c.unit.now it) (conversion_by (conversion_of c) it) kind.Value place))

abbrev pub is_lost : Rule → Bool
is_lost rule.Identical = false
is_lost (rule.Linear numbers) = false
is_lost (rule.Rational numbers) = false
is_lost (rule.Values ps) = false
is_lost (rule.Ranges ps) = false
is_lost rule.Lost = true

-- whether MDF has no conversion like that of the column
abbrev pub SaysLost : Column → Bool → Type 0
SaysLost c lost = (it : Rule) × IsRuleOf c it × (lost ≡ is_lost it)

-- channels of columns, by their places and names
abbrev pub AreColumnChannels : List PlacedColumn → List ValuePlace → List (List ℕ)
    → List ToldChannel → Type 0
AreColumnChannels [] places names channels = channels ≡ []
AreColumnChannels (c ∷ cs) [] names channels = ⊥
AreColumnChannels (c ∷ cs) (p ∷ ps) [] channels = ⊥
AreColumnChannels (c ∷ cs) (p ∷ ps) (n ∷ ns) [] = ⊥
AreColumnChannels (c ∷ cs) (p ∷ ps) (n ∷ ns) (t ∷ ts) =
    IsColumnChannel c.column p n t × AreColumnChannels cs ps ns ts

-- they stand behind others
abbrev pub AddsChannels : List PlacedColumn → List ValuePlace → List (List ℕ) → List ToldChannel
    → List ToldChannel → Type 0
AddsChannels columns places names old new =
    (more : List ToldChannel) × (new ≡ old ++ more) × AreColumnChannels columns places names more

-- the names that are wanted: columns keep theirs, so they come first
abbrev pub wanted_names : Front → List PlacedColumn → List (List ℕ)
wanted_names front columns = map (λ c. c.column.name.now) columns ++ front_names front

-- the channels of a group: what its records begin with, their mark, and its columns in their order
pub record AreChannels (form : FormOf) (columns : List PlacedColumn) (channels : List ToldChannel) :
    Type 0 where
  -- those of the columns, and then those before them: fixed by `adds`
  pub names : List (List ℕ)
  pub are_names : AreNames (wanted_names form.front columns) names
  pub adds : AddsChannels columns form.places (take (length columns) names)
      (front_channels form.front (drop (length columns) names)) channels
