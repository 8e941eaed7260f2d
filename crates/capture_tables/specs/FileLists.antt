-- The lists of a capture as groups of a measurement file (own).
use Rattle.std.specs.Prelude.{◌≡◌, ◌⊎◌, ℕ, ◌+◌, List, [], ◌∷◌, ◌++◌, drop, length, set, slice_get}
use Rattle.std.specs.Prelude.{Option, None, Some, unwrap_or}
use Rattle.std.specs.Float.{Float}
use Rattle.captured_samples.specs.Marks.{number_of}
use Rattle.captured_samples.specs.Places.{size_of}
use Rattle.captured_samples.specs.declared.mark.Mark.{Mark}
use Rattle.captured_session.specs.Lists.{ListOf}
use Rattle.measured_values.specs.Encodings.{size_of as encoded_size}
use Rattle.mdf_file.specs.Writing.{Written}
use Rattle.mdf_groups.specs.Files.{AddsGroup, AddsSample, FileOf, group_name}
use Rattle.mdf_groups.specs.Times.{risen}
use Rattle.mdf_groups.specs.declared.front.Front.TheVariants as front
use Rattle.mdf_groups.specs.declared.group_fault.GroupFault.{GroupFault}
use Rattle.mdf_groups.specs.declared.placed_column.PlacedColumn.{PlacedColumn}
use Rattle.mdf_groups.specs.declared.record_time.RecordTime.{RecordTime}
use Rattle.mdf_groups.specs.declared.record_time.RecordTime.TheVariants as time
use Rattle.value_tables.specs.declared.column.Column.{Column}
use Rattle.capture_tables.specs.Places.{IsPlaceIn, entries_of}
use Rattle.capture_tables.specs.declared.list_groups.ListGroups.{ListGroups}

-- a measurement file, and the groups of each set-up of a list
pub record ListsOf : Type 0 where
  pub file : FileOf
  pub lists : List ListGroups

-- a measurement file of a capture, and why no more is written to it
pub record CaptureFileOf : Type 0 where
  pub file : Written
  pub failed : Option GroupFault

-- the group of a sample: that of those whose time is known, or that of the others
abbrev pub group_for : ListGroups → Option Float → ℕ
group_for list None = list.untimed
group_for list (Some now) = list.timed

-- the time of a sample behind one of that time: not earlier
abbrev pub time_behind : Option Float → Float → Float
time_behind last now = risen (unwrap_or last now) now

-- the time of its record
abbrev pub record_time : ListGroups → Option Float → RecordTime
record_time list None = time.Unknown
record_time list (Some now) = time.Seconds (time_behind list.last now)

-- the list behind that sample
abbrev pub with_time : ListGroups → Option Float → ListGroups
with_time list None = list
with_time list (Some now) = record list { last = Some (time_behind list.last now) }

-- the list of that number has one sample more: the last record of its group for such a sample. All
-- else is as before
pub record AddsListSample (old new : ListsOf) (number : ℕ) (at : Option Float) (mark : Mark)
    (bytes : List ℕ) : Type 0 where
  -- fixed by `there`
  pub list : ListGroups
  pub there : slice_get old.lists number ≡ Some list
  pub adds :
      AddsSample old.file new.file (group_for list at) (record_time list at) (number_of mark)
      bytes
  pub lists : new.lists ≡ set old.lists number (with_time list at)

-- how many bytes a sample of a list has
abbrev pub sample_size : ListOf → ℕ
sample_size list = size_of (entries_of list)

abbrev pub IsPlaceOf : ListOf → Column → Option ℕ → Type 0
IsPlaceOf list c at = IsPlaceIn list c.address (encoded_size c.encoding.data_type) at

-- the columns whose bytes the samples of a list have, in their order, each with its place
abbrev pub ArePlacedIn : ListOf → List Column → List PlacedColumn → Type 0
ArePlacedIn list [] placed = placed ≡ []
ArePlacedIn list (c ∷ cs) placed =
    (IsPlaceOf list c None × ArePlacedIn list cs placed)
    ⊎ ((at : ℕ) × IsPlaceOf list c (Some at)
    × (slice_get placed 0 ≡ Some (record { column = c; at = at }))
    × ArePlacedIn list cs (drop 1 placed))

-- one column more, if they have its bytes
abbrev pub AddsPlaced : ListOf → Column → List PlacedColumn → List PlacedColumn → Type 0
AddsPlaced list c placed placed' =
    (IsPlaceOf list c None × (placed' ≡ placed))
    ⊎ ((at : ℕ) × IsPlaceOf list c (Some at)
    × (placed' ≡ placed ++ record { column = c; at = at } ∷ []))

-- there is a set-up of a list more, the last one: a group for the samples whose time is known, and
-- behind it one for the others, both of the columns that the list's samples have. No sample of it
-- was written yet; all else is as before
pub record AddsList (old new : ListsOf) (list : ListOf) (columns : List Column) : Type 0 where
  -- fixed by `are_placed`
  pub placed : List PlacedColumn
  pub are_placed : ArePlacedIn list columns placed
  -- the file with the first of the two groups, fixed by `timed`
  pub between : FileOf
  pub timed :
      AddsGroup old.file between (group_name list.list list.mode.channel) front.Seconds
      (sample_size list) placed
  pub untimed :
      AddsGroup between new.file (group_name list.list list.mode.channel) front.Nothing
      (sample_size list) placed
  pub lists :
      new.lists
      ≡ old.lists ++ record {
        timed = length old.file.file.groups;
        untimed = length old.file.file.groups + 1;
        last = None;
      } ∷ []
