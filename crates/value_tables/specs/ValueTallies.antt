-- What there is of the values of each column.
use Rattle.std.specs.Prelude.{◌≡◌, ℕ, ◌<◌, ◌≤◌, List, [], ◌∷◌, length, slice_get}
use Rattle.std.specs.Prelude.{Option, None, Some, option_map}
use Rattle.std.specs.Float.{Float}
use Rattle.measured_values.specs.Physicals.{converted, number_of_shown}
use Rattle.measured_values.specs.Tallies.{IsTally}
use Rattle.measured_values.specs.declared.raw.Raw.{Raw}
use Rattle.measured_values.specs.declared.tally.Tally.{Tally}
use Rattle.copy_plan.specs.Config.{ListPlan}
use Rattle.daq_reader.specs.Recorded.{Recorded}
use Rattle.value_tables.specs.Values.{conversion_of, raw_at, raw_of}
use Rattle.value_tables.specs.declared.column.Column.{Column}
use Rattle.value_tables.specs.declared.source.Source.{Source}

-- the number of a raw value: that of the physical one, for a text that of the raw value itself
abbrev pub number_of : Column → Raw → Float
number_of column raw = number_of_shown (converted (conversion_of column) raw) raw

-- the number of a column in a sample of a list, if there is a list and it has the column
abbrev pub number_in : Column → Option ListPlan → Recorded → Option Float
number_in column None r = None
number_in column (Some plan) r = option_map (number_of column) (raw_of plan r column)

-- a number too, if there is one
abbrev pub with_number : Option Float → List Float → List Float
with_number None earlier = earlier
with_number (Some x) earlier = x ∷ earlier

-- the numbers of a column in samples, the newest first in both
abbrev pub numbers_of : List ListPlan → Column → List (ℕ × Recorded) → List Float
numbers_of plans column [] = []
numbers_of plans column (s ∷ earlier) =
    with_number (number_in column (slice_get plans s.0) s.1) (numbers_of plans column earlier)

-- each tally is that of the numbers of its column in the samples, the newest first
abbrev pub AreTallies :
    List ListPlan → List Column → List (ℕ × Recorded) → List Tally → Type 0
AreTallies plans columns earlier tallies =
    (i : ℕ) (column : Column) (tally : Tally) → slice_get columns i ≡ Some column
    → slice_get tallies i ≡ Some tally → IsTally tally (numbers_of plans column earlier)

-- a tally has noted the number of a column in a sample, in which the column has this source
abbrev pub Notes : Recorded → Column → Option Source → Tally → Tally → Type 0
Notes r column source old now =
    (values : List Float) → IsTally old values
    → IsTally now (with_number (option_map (number_of column) (raw_at r column source)) values)

-- so has each of the first n tallies that of its column, and the others are as before
pub record NotesFirst (r : Recorded) (columns : List Column) (sources : List (Option Source))
    (n : ℕ) (old now : List Tally)
    : Type 0 where
  pub all : length now ≡ length old
  pub each :
      (i : ℕ) (column : Column) (source : Option Source) (before after : Tally) → i < n
      → slice_get columns i ≡ Some column → slice_get sources i ≡ Some source
      → slice_get old i ≡ Some before → slice_get now i ≡ Some after
      → Notes r column source before after
  pub others : (i : ℕ) → n ≤ i → slice_get now i ≡ slice_get old i

-- so has each tally that of its column in a sample of a list, if there is one
abbrev pub NotesIn :
    Recorded → List Column → Option ListPlan → List Tally → List Tally → Type 0
NotesIn r columns plan old now =
    (i : ℕ) (column : Column) (before after : Tally) → slice_get columns i ≡ Some column
    → slice_get old i ≡ Some before → slice_get now i ≡ Some after
    → (values : List Float) → IsTally before values
    → IsTally after (with_number (number_in column plan r) values)

-- the lists and the columns
pub record TalliesStart : Type 0 where
  pub plans : List ListPlan
  pub columns : List Column

-- the lists, the columns, and the samples that were handed over
pub record TalliesState : Type 0 where
  pub plans : List ListPlan
  pub columns : List Column
  pub samples : List (ℕ × Recorded)
