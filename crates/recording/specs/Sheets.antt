-- What the sheets have that samples are printed on.
use Rattle.std.specs.Prelude.{ℕ, List, Option}
use Rattle.copy_plan.specs.Config.{ListPlan}
use Rattle.daq_reader.specs.Recorded.{Recorded}
use Rattle.measured_values.specs.declared.tick.Tick.{Tick}
use Rattle.mdf_file.specs.declared.about.About.{About}
use Rattle.value_tables.specs.declared.column.Column.{Column}

-- what the writer had before, and the samples that were handed over
pub record PictureState : Type 0 where
  pub start : Option (List ℕ)
  pub samples : List (ℕ × Recorded)

-- the columns, the lists, and what the writer had before
pub record TallySheetStart : Type 0 where
  pub columns : List Column
  pub plans : List ListPlan
  pub start : Option (List ℕ)

-- these, and the samples that were handed over
pub record TallySheetState : Type 0 where
  pub columns : List Column
  pub plans : List ListPlan
  pub start : Option (List ℕ)
  pub samples : List (ℕ × Recorded)

-- what a measurement file is about, how long a tick is, the columns, the lists, and what the out
-- had before
pub record FileSheetStart : Type 0 where
  pub about : About
  pub tick : Option Tick
  pub columns : List Column
  pub plans : List ListPlan
  pub start : Option (List ℕ)

-- these, and the samples that were handed over
pub record FileSheetState : Type 0 where
  pub about : About
  pub tick : Option Tick
  pub columns : List Column
  pub plans : List ListPlan
  pub start : Option (List ℕ)
  pub samples : List (ℕ × Recorded)
