-- The values of a sample: which of its bytes they are, and what is written of them.
use Rattle.std.specs.Prelude.{◌≡◌, ℕ, ◌+◌, nat_le, if◌then◌else◌, List, [], length, map, take, drop}
use Rattle.std.specs.Prelude.{Option, None, Some, option_map}
use Rattle.std.specs.Option.{option_copied}
use Rattle.measured_values.specs.Encodings.{size_of}
use Rattle.measured_values.specs.declared.conversion.Conversion.{Conversion}
use Rattle.measured_values.specs.declared.conversion.Conversion.TheVariants.{Identical}
use Rattle.measured_values.specs.Physicals.{converted}
use Rattle.measured_values.specs.Raws.{raw_value}
use Rattle.measured_values.specs.Texts.{IsTextOf}
use Rattle.measured_values.specs.declared.raw.Raw.{Raw}
use Rattle.copy_plan.specs.Config.{ListPlan}
use Rattle.daq_reader.specs.Recorded.{Recorded, element}
use Rattle.value_tables.specs.Sources.{source_of}
use Rattle.value_tables.specs.declared.column.Column.{Column}
use Rattle.value_tables.specs.declared.source.Source.{Source}

-- so many bytes from a place on, if there are as many
abbrev pub part_of : ℕ → ℕ → Option (List ℕ) → Option (List ℕ)
part_of offset size None = None
part_of offset size (Some bytes) =
    if nat_le (offset + size) (length bytes) then Some (take size (drop offset bytes)) else None

-- the bytes of a sample at a source
abbrev pub bytes_at : Recorded → ℕ → Option Source → Option (List ℕ)
bytes_at r size None = None
bytes_at r size (Some source) = part_of source.offset size (element r source.odt source.entry)

-- the number of a value's bytes
abbrev pub width_of : Column → ℕ
width_of column = size_of column.encoding.data_type

-- where a value stands in the samples of a list
abbrev pub source_for : ListPlan → Column → Option Source
source_for plan column = source_of plan column.address (width_of column)

-- where all of them stand
abbrev pub sources_for : List Column → ListPlan → List (Option Source)
sources_for columns plan = map (source_for plan) columns

-- what is made of raw values
abbrev pub or_identical : Option Conversion → Conversion
or_identical None = Identical
or_identical (Some conversion) = conversion

abbrev pub conversion_of : Column → Conversion
conversion_of column = or_identical (option_copied column.conversion)

-- the raw value of a sample's bytes at a source
abbrev pub raw_at : Recorded → Column → Option Source → Option Raw
raw_at r column source =
    option_map (raw_value column.encoding) (bytes_at r (width_of column) source)

-- the raw value in a sample of a list
abbrev pub raw_of : ListPlan → Recorded → Column → Option Raw
raw_of plan r column = raw_at r column (source_for plan column)

-- what is written of a raw value: the physical one; and nothing if there is none
abbrev pub IsCellOf : Column → Option Raw → List ℕ → Type 0
IsCellOf column None cell = cell ≡ []
IsCellOf column (Some raw) cell = IsTextOf (converted (conversion_of column) raw) cell

-- the same, of a column with its source
abbrev pub IsCellAt : Recorded → Column × Option Source → List ℕ → Type 0
IsCellAt r (column, source) cell = IsCellOf column (raw_at r column source) cell

-- what is written of a value in a sample of a list
abbrev pub IsCell : ListPlan → Recorded → Column → List ℕ → Type 0
IsCell plan r column cell = IsCellOf column (raw_of plan r column) cell
