-- The values of a recording as a measurement file (own): a group for each DAQ list, with a record
-- for each of its samples.
use Rattle.std.specs.Prelude.{◌≡◌, ℕ, ◌==◌, Bool, if◌then◌else◌, List, [], ◌∷◌, ◌++◌, flat_map}
use Rattle.std.specs.Prelude.{length, reverse, slice_get, Option, Some, None}
use Rattle.copy_plan.specs.Config.{ListPlan}
use Rattle.daq_reader.specs.Recorded.{Recorded}
use Rattle.measured_values.specs.declared.tick.Tick.{Tick}
use Rattle.mdf_file.specs.Ending.{told_file}
use Rattle.mdf_file.specs.Writing.{IsToldBy, WrittenGroup, told_groups}
use Rattle.mdf_file.specs.declared.about.About.{About}
use Rattle.mdf_groups.specs.Channels.{AreChannels}
use Rattle.mdf_groups.specs.Files.{IsFormFor, group_name, record_bytes_of}
use Rattle.mdf_groups.specs.Records.{FormOf, record_of}
use Rattle.mdf_groups.specs.Times.{seconds_of}
use Rattle.mdf_groups.specs.declared.front.Front.{Front}
use Rattle.mdf_groups.specs.declared.front.Front.TheVariants as front
use Rattle.mdf_groups.specs.declared.own_value.OwnValue.{OwnValue}
use Rattle.mdf_groups.specs.declared.placed_column.PlacedColumn.{PlacedColumn}
use Rattle.mdf_groups.specs.declared.record_time.RecordTime.{RecordTime}
use Rattle.mdf_groups.specs.declared.record_time.RecordTime.TheVariants as time
use Rattle.sample_tables.specs.Spots.{spot_of}
use Rattle.value_tables.specs.Places.{joined, place_for, sample_len}
use Rattle.value_tables.specs.declared.column.Column.{Column}

-- what records begin with: seconds if it is known how long a tick is, else ticks
abbrev pub stamped_front : Option Tick → Front
stamped_front (Some tick) = front.Seconds
stamped_front None = front.Ticks

-- the same of a list, whose samples may have no timestamps
abbrev pub front_of : Option Tick → ListPlan → Front
front_of tick plan = if plan.stamped then stamped_front tick else front.Nothing

-- so many ticks as the time of a record
abbrev pub ticks_as : Option Tick → ℕ → RecordTime
ticks_as (Some tick) at = time.Seconds (seconds_of at tick)
ticks_as None at = time.Ticks at

abbrev pub time_of : Option Tick → Option ℕ → RecordTime
time_of tick None = time.Unknown
time_of tick (Some at) = ticks_as tick at

-- the columns that the samples of a list have, and where
abbrev pub placed_at : Column → Option ℕ → List PlacedColumn
placed_at c None = []
placed_at c (Some at) = record { column = c; at = at } ∷ []

abbrev pub placed_in : ListPlan → List Column → List PlacedColumn
placed_in plan columns = flat_map (λ (c : Column). placed_at c (place_for plan c)) columns

-- the mark of a sample
abbrev pub mark_of : Bool → ℕ
mark_of overload = if overload then 1 else 0

-- the record of a sample of the list at a place, which stands behind earlier ones, the newest first
abbrev pub record_behind :
    Option Tick → List ListPlan → List OwnValue → List (ℕ × Recorded) → ℕ → Recorded → List ℕ
record_behind tick plans own earlier place r =
    record_of own (time_of tick (spot_of plans earlier place r).time) (mark_of r.overload)
    (joined r)

-- the records of the samples of the list at a place, in order; of all samples the newest is first
abbrev pub records_of :
    Option Tick → List ListPlan → List OwnValue → ℕ → List (ℕ × Recorded) → List (List ℕ)
records_of tick plans own place [] = []
records_of tick plans own place (s ∷ earlier) =
    records_of tick plans own place earlier
    ++ (if s.0 == place then record_behind tick plans own earlier place s.1 ∷ [] else [])

-- the group of the list at a place: its name, a channel for each column that its samples have, and
-- their records
pub record IsGroupOf (tick : Option Tick) (columns : List Column) (plans : List ListPlan)
    (earlier : List (ℕ × Recorded)) (place : ℕ) (plan : ListPlan) (form : FormOf)
    (group : WrittenGroup)
    : Type 0 where
  pub name : group.name ≡ group_name plan.list plan.channel
  pub is_form : IsFormFor (front_of tick plan) (sample_len plan) (placed_in plan columns) form
  pub are_channels : AreChannels form (placed_in plan columns) group.channels
  pub size : group.record_bytes ≡ record_bytes_of form
  pub records : group.records ≡ records_of tick plans form.own place earlier

-- it is one of these groups, whose records have these forms
pub record HasGroup (tick : Option Tick) (columns : List Column) (plans : List ListPlan)
    (earlier : List (ℕ × Recorded)) (place : ℕ) (plan : ListPlan) (forms : List FormOf)
    (groups : List WrittenGroup)
    : Type 0 where
  -- fixed by `has_form`
  pub form : FormOf
  pub has_form : slice_get forms place ≡ Some form
  -- fixed by `there`
  pub group : WrittenGroup
  pub there : slice_get groups place ≡ Some group
  pub is : IsGroupOf tick columns plans earlier place plan form group

-- each list has its group, and there are no others
pub record HaveGroups (tick : Option Tick) (columns : List Column) (plans : List ListPlan)
    (earlier : List (ℕ × Recorded)) (forms : List FormOf) (groups : List WrittenGroup)
    : Type 0 where
  pub all_forms : length forms ≡ length plans
  pub all : length groups ≡ length plans
  pub each :
      (place : ℕ) (plan : ListPlan) → slice_get plans place ≡ Some plan
      → HasGroup tick columns plans earlier place plan forms groups

-- an out that had no bytes, as far as they are known, has those of the measurement file of these
-- samples. A list without samples isn't told
pub record IsMeasured (about : About) (tick : Option Tick) (columns : List Column)
    (plans : List ListPlan) (samples : List (ℕ × Recorded)) (before after : Option (List ℕ))
    : Type 0 where
  -- fixed by `are`
  pub forms : List FormOf
  pub groups : List WrittenGroup
  pub are : HaveGroups tick columns plans (reverse samples) forms groups
  pub told : IsToldBy before after (told_file about (told_groups groups))
