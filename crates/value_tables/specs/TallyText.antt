-- The table that is printed of the values of columns. Each line ends with a line feed.
use Rattle.std.specs.Prelude.{◌≡◌, ◌⊎◌, ◌≢◌, ℕ, ◌-◌, ◌^◌, List, ◌++◌, codes, flat_map, length}
use Rattle.std.specs.Prelude.{reverse}
use Rattle.std.specs.Prelude.{Option, Some, None}
use Rattle.std.specs.Fmt.{decimal, format_spec, padded}
use Rattle.std.specs.Float.{Float}
use Rattle.std.specs.List.{AllZip}
use Rattle.measured_values.specs.Tallies.{IsAbove, IsBelow, IsBestIfAny, counted, mean_of}
use Rattle.measured_values.specs.Texts.{IsNumberText}
use Rattle.measured_values.specs.Physicals.{written}
use Rattle.measured_values.specs.declared.raw.Raw.{Raw}
use Rattle.measured_values.specs.declared.data_type.DataType.{DataType}
use Rattle.copy_plan.specs.Config.{ListPlan}
use Rattle.daq_reader.specs.Recorded.{Recorded}
use Rattle.sample_tables.specs.Tables.{line_feed, right_aligned}
use Rattle.value_tables.specs.ValueRows.{head_of}
use Rattle.value_tables.specs.ValueTallies.{numbers_of}
use Rattle.value_tables.specs.declared.column.Column.{Column}

abbrev pub head_line : List ℕ
head_line =
    codes "     values          least       greatest           mean  measurement" ++ line_feed

-- a text without the `.0` at its end, if it has one
abbrev pub IsWithoutZero : List ℕ → List ℕ → Type 0
IsWithoutZero whole text =
    (whole ≡ text ++ codes ".0")
    ⊎ ((text ≡ whole) × ((front : List ℕ) → whole ≢ front ++ codes ".0"))

-- the text of a number, without `.0`
abbrev pub IsShortText : Raw → List ℕ → Type 0
IsShortText x text = (whole : List ℕ) × IsNumberText x whole × IsWithoutZero whole text

-- the text of a number of values of a data type, or `-` where there is none
abbrev pub IsTextIfAny : DataType → Option Float → List ℕ → Type 0
IsTextIfAny t None text = text ≡ codes "-"
IsTextIfAny t (Some x) text = IsShortText (written t x) text

-- a text in its column: behind a space, with spaces before it up to a width of 14
abbrev pub cell_text : List ℕ → List ℕ
cell_text text = codes " " ++ padded (format_spec 32 3 0 14 (2 ^ 64 - 1)) text

abbrev pub IsNumberCell : DataType → Option Float → List ℕ → Type 0
IsNumberCell t number cell = (text : List ℕ) × IsTextIfAny t number text × (cell ≡ cell_text text)

-- the name of a column behind two spaces, and the end of the line
abbrev pub name_text : List ℕ → List ℕ
name_text name = codes "  " ++ name ++ line_feed

-- the line of a column with these values, the newest first: how many they are, the least and the
-- greatest of them, and their mean
pub record IsLine (values : List Float) (column : Column) (line : List ℕ) : Type 0 where
  pub least : Option Float
  pub greatest : Option Float
  pub is_least : IsBestIfAny IsBelow values least
  pub is_greatest : IsBestIfAny IsAbove values greatest
  pub least_cell : List ℕ
  pub greatest_cell : List ℕ
  pub mean_cell : List ℕ
  pub is_least_cell : IsNumberCell column.encoding.data_type least least_cell
  pub is_greatest_cell : IsNumberCell column.encoding.data_type greatest greatest_cell
  pub is_mean_cell : IsNumberCell column.encoding.data_type (mean_of values) mean_cell
  pub text :
      line ≡ right_aligned 11 (decimal (counted (length values))) ++ least_cell ++ greatest_cell
      ++ mean_cell ++ name_text (head_of column)

-- the line of a column in samples, the newest first
abbrev pub IsLineOf : List ListPlan → List (ℕ × Recorded) → Column → List ℕ → Type 0
IsLineOf plans earlier column line = IsLine (numbers_of plans column earlier) column line

-- the lines one after another
abbrev pub joined : List (List ℕ) → List ℕ
joined lines = flat_map (λ line. line) lines

-- the head, and a line for each column in its order
abbrev pub IsTable :
    List ListPlan → List Column → List (ℕ × Recorded) → List ℕ → Type 0
IsTable plans columns samples text =
    (lines : List (List ℕ)) × AllZip (IsLineOf plans (reverse samples)) columns lines
    × (text ≡ head_line ++ joined lines)
