-- The CSV text of values: the names of its columns, and a row for each sample (RFC 4180).
use Rattle.std.specs.Prelude.{◌≡◌, ℕ, ◌+◌, ◌-◌, ◌*◌, ◌^◌, ◌<◌, List, [], ◌∷◌, ◌++◌, codes, length}
use Rattle.std.specs.Prelude.{map, reverse, slice_get, zip}
use Rattle.std.specs.Prelude.{Option, Some, None}
use Rattle.std.specs.Fmt.{decimal}
use Rattle.std.specs.List.{AllZip}
use Rattle.std.specs.Io.KnownBytes.{Appends}
use Rattle.csv.specs.Writing.{row_text, text_written}
use Rattle.csv.specs.declared.writer.Writer.{Writer}
use Rattle.measured_values.specs.declared.tick.Tick.{Tick}
use Rattle.measured_values.specs.Decimals.{IsDecimal}
use Rattle.copy_plan.specs.Config.{ListPlan}
use Rattle.daq_reader.specs.Recorded.{Recorded}
use Rattle.sample_tables.specs.Rows.{IsBetweenRows, one_or_zero, rfc_4180}
use Rattle.sample_tables.specs.Spots.{spot_of}
use Rattle.sample_tables.specs.declared.spot.Spot.{Spot}
use Rattle.value_tables.specs.Fields.{HasFields}
use Rattle.value_tables.specs.Values.{IsCell, IsCellAt}
use Rattle.value_tables.specs.declared.column.Column.{Column}
use Rattle.value_tables.specs.declared.source.Source.{Source}

-- a name, with its unit in brackets if there is one
abbrev pub with_unit : List ℕ → List ℕ → List ℕ
with_unit name [] = name
with_unit name (u ∷ unit) = name ++ codes " [" ++ (u ∷ unit) ++ codes "]"

-- the name of a column
abbrev pub head_of : Column → List ℕ
head_of column = with_unit column.name.now column.unit.now

-- the unit of times
abbrev pub time_unit : Option Tick → List ℕ
time_unit None = codes "ticks"
time_unit (Some tick) = codes "s"

-- the names of what stands in front of the columns
abbrev pub front_heads : Option Tick → List (List ℕ)
front_heads tick =
    with_unit (codes "time") (time_unit tick) ∷ codes "list" ∷ codes "overload" ∷ []

-- all names
abbrev pub heads : Option Tick → List Column → List (List ℕ)
heads tick columns = front_heads tick ++ map head_of columns

-- behind the fields of a row, the names of columns were written too, while they can be counted
abbrev pub HasNames :
    {W : Type 0} → (W → Option (List ℕ)) → Writer W → Writer W → List Column → Type 0
HasNames contents old now columns =
    (before : Option (List ℕ)) (fields : List (List ℕ)) → HasFields contents before fields old
    → length fields + length columns < 2 ^ 64 - 1
    → HasFields contents before (fields ++ map head_of columns) now

-- what is written of a time: in seconds if it is known how long a tick is, else in ticks; nothing
-- if there is none
abbrev pub IsTime : Option Tick → Option ℕ → List ℕ → Type 0
IsTime tick None text = text ≡ []
IsTime None (Some at) text = text ≡ decimal at
IsTime (Some tick) (Some at) text = IsDecimal (at * tick.mantissa) tick.exponent text

-- behind the fields of a row, the cells of columns were written too: of a sample, in which the
-- columns have these sources
abbrev pub HasCells :
    {W : Type 0} → (W → Option (List ℕ)) → Writer W → Writer W → Recorded → List Column
    → List (Option Source) → Type 0
HasCells contents old now r columns sources =
    (before : Option (List ℕ)) (fields : List (List ℕ)) → HasFields contents before fields old
    → length fields + length columns < 2 ^ 64 - 1
    → (cells : List (List ℕ)) × AllZip (IsCellAt r) (zip columns sources) cells
    × HasFields contents before (fields ++ cells) now

-- the row of a sample of a list, which stands here: its time, its list, whether it has the overload
-- indication, and column by column what is written of its value
pub record IsRow (tick : Option Tick) (columns : List Column) (plan : ListPlan) (at : Spot)
    (r : Recorded) (text : List ℕ)
    : Type 0 where
  pub time : List ℕ
  pub cells : List (List ℕ)
  pub is_time : IsTime tick at.time time
  pub are_cells : AllZip (IsCell plan r) columns cells
  pub row :
      text ≡ row_text rfc_4180
      (time ∷ decimal plan.list ∷ one_or_zero r.overload ∷ cells)

-- the same, if there is a list
abbrev pub IsRowIn :
    Option Tick → List Column → Option ListPlan → Spot → Recorded → List ℕ → Type 0
IsRowIn tick columns None at r text = text ≡ []
IsRowIn tick columns (Some plan) at r text = IsRow tick columns plan at r text

-- the rows of samples, the newest first: those of the earlier ones, and behind them its own
abbrev pub AreRows :
    Option Tick → List Column → List ListPlan → List (ℕ × Recorded) → List ℕ → Type 0
AreRows tick columns plans [] text = text ≡ []
AreRows tick columns plans (s ∷ earlier) text =
    (before : List ℕ) × (row : List ℕ) × AreRows tick columns plans earlier before
    × IsRowIn tick columns (slice_get plans s.0) (spot_of plans earlier s.0 s.1) s.1 row
    × (text ≡ before ++ row)

-- the names of the columns, and the rows of samples in the order in which they were given back
abbrev pub IsCsv :
    Option Tick → List Column → List ListPlan → List (ℕ × Recorded) → List ℕ → Type 0
IsCsv tick columns plans samples text =
    (rows : List ℕ) × AreRows tick columns plans (reverse samples) rows
    × (text ≡ row_text rfc_4180 (heads tick columns) ++ rows)

-- behind what the writer had before, the CSV of the samples was written
pub record HasCsv {W : Type 0} (contents : W → Option (List ℕ)) (tick : Option Tick)
    (columns : List Column) (plans : List ListPlan) (start : Option (List ℕ))
    (samples : List (ℕ × Recorded)) (rows : Writer W)
    : Type 0 where
  pub between : IsBetweenRows rows
  pub text : List ℕ
  pub is : IsCsv tick columns plans samples text
  pub written : Appends start (text_written contents rows) text

-- how long a tick is, the columns, the lists, and what the writer had before
pub record ValueRowsStart : Type 0 where
  pub tick : Option Tick
  pub columns : List Column
  pub plans : List ListPlan
  pub start : Option (List ℕ)

-- these, and the samples that were handed over
pub record ValueRowsState : Type 0 where
  pub tick : Option Tick
  pub columns : List Column
  pub plans : List ListPlan
  pub start : Option (List ℕ)
  pub samples : List (ℕ × Recorded)
