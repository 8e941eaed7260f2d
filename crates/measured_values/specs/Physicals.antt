-- The physical value of a raw one (ASAM MCD-2 MC, COMPU_METHOD).
use Rattle.std.specs.Prelude.{Bool, ◌&&◌, List, ℕ, Option, Some, None, string_bytes, find}
use Rattle.std.specs.Prelude.{if◌then◌else◌}
use Rattle.std.specs.Option.{option_map}
use Rattle.std.specs.Float.{Float, binary32, binary64, round_to_format}
use Rattle.std.specs.Float.Ieee.{add, div, eq, le, mul, sub}
use Rattle.measured_values.specs.declared.conversion.Conversion.{Conversion}
use Rattle.measured_values.specs.declared.conversion.Conversion.TheVariants.{Identical, Linear}
use Rattle.measured_values.specs.declared.conversion.Conversion.TheVariants.{Other}
use Rattle.measured_values.specs.declared.conversion.Conversion.TheVariants.{Rational, Texts}
use Rattle.measured_values.specs.declared.data_type.DataType.{DataType}
use Rattle.measured_values.specs.declared.data_type.DataType.TheVariants as type
use Rattle.measured_values.specs.declared.text_table.TextRow.{TextRow}
use Rattle.measured_values.specs.declared.text_table.TextTable.{TextTable}
use Rattle.measured_values.specs.Raws.{number_of_raw}
use Rattle.measured_values.specs.declared.physical.Physical.{Physical}
use Rattle.measured_values.specs.declared.physical.Physical.TheVariants as of
use Rattle.measured_values.specs.declared.raw.Raw.{Raw}
use Rattle.measured_values.specs.declared.raw.Raw.TheVariants.{Double, Signed, Single, Unsigned}

-- what is shown of a physical value: a number, of the kinds that raw values have, or a text
pub data Shown : Type 0 where
  Value : Raw → Shown
  Words : List ℕ → Shown

abbrev pub shown_of : Physical → Shown
shown_of (of.Unsigned n) = Value (Unsigned n)
shown_of (of.Signed z) = Value (Signed z)
shown_of (of.Single x) = Value (Single x)
shown_of (of.Double x) = Value (Double x)
shown_of (of.Text text) = Words text.now

-- the number of a value that is shown; for a text that of the raw value
abbrev pub number_of_shown : Shown → Raw → Float
number_of_shown (Value value) raw = number_of_raw value
number_of_shown (Words text) raw = number_of_raw raw

-- a row takes a number in
abbrev pub takes_in : Float → TextRow → Bool
takes_in x row = le row.least x && le x row.greatest

-- the default text of a table
abbrev pub other_text : TextTable → Option (List ℕ)
other_text table = option_map string_bytes table.other

-- the text of a row, if there is one, and else another
abbrev pub text_or : Option TextRow → Option (List ℕ) → Option (List ℕ)
text_or (Some row) other = Some (string_bytes row.text)
text_or None other = other

-- the text of a number: that of the first row that takes it in, else the default text
abbrev pub text_in : TextTable → Float → Option (List ℕ)
text_in table x = text_or (find (takes_in x) table.rows.items) (other_text table)

-- the text, if there is one, and else the raw value
abbrev pub words_or : Option (List ℕ) → Raw → Shown
words_or (Some text) raw = Words text
words_or None raw = Value raw

-- a number that a float of 32 bits has too, as such a float; and any other as one of 64 bits
abbrev pub narrowed : Float → Raw
narrowed x =
    if eq (round_to_format binary32 x) x then Single (round_to_format binary32 x) else Double x

-- what is written of a number of values of a data type
abbrev pub written : DataType → Float → Raw
written type.UByte x = Double x
written type.SByte x = Double x
written type.UWord x = Double x
written type.SWord x = Double x
written type.ULong x = Double x
written type.SLong x = Double x
written type.AUint64 x = Double x
written type.AInt64 x = Double x
written type.Float16 x = Double x
written type.Float32 x = narrowed x
written type.Float64 x = Double x

-- what is written of a number that was computed of a raw value
abbrev pub computed : Raw → Float → Raw
computed (Unsigned n) x = Double x
computed (Signed z) x = Double x
computed (Single y) x = narrowed x
computed (Double y) x = Double x

-- the physical value of a raw one
abbrev pub converted : Conversion → Raw → Shown
converted Identical raw = Value raw
converted (Linear factor offset) raw =
    Value (computed raw (add binary64 (mul binary64 factor (number_of_raw raw)) offset))
converted (Rational b c f) raw =
    Value (computed raw (div binary64 (sub binary64 (mul binary64 f (number_of_raw raw)) c) b))
converted (Texts table) raw = words_or (text_in table (number_of_raw raw)) raw
converted Other raw = Value raw
