-- A file that is being written, by what was handed in.
use Rattle.std.specs.Prelude.{◌≡◌, ℕ, List, [], ◌∷◌, ◌++◌, Option, None, Some, ⊤}
use Rattle.std.specs.Prelude.{◌==◌, if◌then◌else◌, length, set, slice_get, true}
use Rattle.std.specs.List.{concat}
use Rattle.mdf_blocks.specs.Fields.{SaysState}
use Rattle.mdf_blocks.specs.Told.{TellsFile, ToldChannel, ToldFile, ToldGroup}
use Rattle.mdf_blocks.specs.declared.file_state.FileState.{FileState}
use Rattle.mdf_blocks.specs.declared.file_state.FileState.TheVariants.{Unfinished}
use Rattle.mdf_file.specs.Ending.{told_file}
use Rattle.mdf_file.specs.declared.about.About.{About}
use Rattle.mdf_file.specs.declared.mdf_fault.MdfFault.{MdfFault}
use Rattle.mdf_file.specs.declared.mdf_fault.MdfFault.TheVariants.{NoGroup, NoRecordBytes}
use Rattle.mdf_file.specs.declared.mdf_fault.MdfFault.TheVariants.{PartOfRecord}

-- a group, with its records, the oldest in front
pub record WrittenGroup : Type 0 where
  pub name : List ℕ
  pub channels : List ToldChannel
  pub record_bytes : ℕ
  pub records : List (List ℕ)

-- what was handed in, why no more is taken, and all bytes of the out, if they are known
pub record Written : Type 0 where
  pub about : About
  pub groups : List WrittenGroup
  pub failed : Option MdfFault
  pub bytes : Option (List ℕ)

-- what a group tells
abbrev pub told_written_group : WrittenGroup → ToldGroup
told_written_group g = record {
  name = Some g.name;
  channels = g.channels;
  record_bytes = g.record_bytes;
  records = concat g.records;
}

-- nothing, if there are no records
abbrev pub told_if_any : List (List ℕ) → ToldGroup → List ToldGroup
told_if_any [] told = []
told_if_any (r ∷ rs) told = told ∷ []

-- the groups that have records, in their order
abbrev pub told_groups : List WrittenGroup → List ToldGroup
told_groups [] = []
told_groups (g ∷ gs) = told_if_any g.records (told_written_group g) ++ told_groups gs

-- the finished file
abbrev pub told_written : Written → ToldFile
told_written w = told_file w.about (told_groups w.groups)

-- the first of two reasons
abbrev pub first_fault : Option MdfFault → Option MdfFault → Option MdfFault
first_fault (Some fault) later = Some fault
first_fault None later = later

-- why a group doesn't take a record
abbrev pub misfit : Option WrittenGroup → List ℕ → Option MdfFault
misfit None bytes = Some NoGroup
misfit (Some g) bytes = if length bytes == g.record_bytes then None else Some PartOfRecord

-- why a record is refused: the writer failed before, or there is no such group, or it has another
-- length than the records of that group
abbrev pub record_refusal : Written → ℕ → List ℕ → Option MdfFault
record_refusal w group bytes = first_fault w.failed (misfit (slice_get w.groups group) bytes)

-- why a group is refused: the writer failed before, or its records have no bytes
abbrev pub group_refusal : Written → ℕ → Option MdfFault
group_refusal w record_bytes =
    first_fault w.failed (if record_bytes == 0 then Some NoRecordBytes else None)

abbrev pub with_record : WrittenGroup → List ℕ → WrittenGroup
with_record g bytes = record {
  name = g.name;
  channels = g.channels;
  record_bytes = g.record_bytes;
  records = g.records ++ bytes ∷ [];
}

-- the group of that number has one record more, the last one, and the others are as before
pub record HasMore (old new : List WrittenGroup) (group : ℕ) (bytes : List ℕ) : Type 0 where
  pub to : WrittenGroup
  pub there : slice_get old group ≡ Some to
  pub gains : new ≡ set old group (with_record to bytes)

-- one record was taken, and all else is as before
pub record GainsRecord (old new : Written) (group : ℕ) (bytes : List ℕ) : Type 0 where
  pub groups : HasMore old.groups new.groups group bytes
  pub about : new.about ≡ old.about
  pub failed : new.failed ≡ None

-- there is one group more, the last one, and all else is as before
pub record GainsGroup (old new : Written) (group : WrittenGroup) : Type 0 where
  pub groups : new.groups ≡ old.groups ++ group ∷ []
  pub about : new.about ≡ old.about
  pub failed : new.failed ≡ None

-- nothing was taken, and nothing will be
pub record HasFailed (old new : Written) (fault : MdfFault) : Type 0 where
  pub groups : new.groups ≡ old.groups
  pub about : new.about ≡ old.about
  pub failed : new.failed ≡ Some fault

-- a file whose end is still to be written
abbrev pub unfinished : FileState
unfinished = Unfinished true true true

-- bytes that were known are known, and say that the file isn't finished
abbrev pub StaysUnfinished : Option (List ℕ) → Option (List ℕ) → Type 0
StaysUnfinished None new = ⊤
StaysUnfinished (Some before) None = ⊥
StaysUnfinished (Some before) (Some bytes) = SaysState bytes unfinished

-- bytes that were known are known, and tell a file
abbrev pub IsToldBy : Option (List ℕ) → Option (List ℕ) → ToldFile → Type 0
IsToldBy None new told = ⊤
IsToldBy (Some before) None told = ⊥
IsToldBy (Some before) (Some bytes) told = TellsFile bytes told
