-- A measurement file of the samples of DAQ lists, by what was handed in (own).
use Rattle.std.specs.Prelude.{◌≡◌, ◌⊎◌, ℕ, Bool, true, false, List, [], ◌∷◌, ◌++◌, All, codes}
use Rattle.std.specs.Prelude.{length, slice_get, Some}
use Rattle.std.specs.Fmt.{decimal}
use Rattle.mdf_blocks.specs.Told.{ToldChannel}
use Rattle.mdf_file.specs.Writing.{GainsGroup, GainsRecord, HasFailed, WrittenGroup, Written}
use Rattle.mdf_file.specs.declared.mdf_fault.MdfFault.{MdfFault}
use Rattle.mdf_file.specs.declared.mdf_fault.MdfFault.TheVariants as file
use Rattle.mdf_groups.specs.Channels.{AreChannels}
use Rattle.mdf_groups.specs.Places.{ArePlaced, ColumnLiesIn}
use Rattle.mdf_groups.specs.Records.{FormOf, IsTimeFor, record_len, record_of}
use Rattle.mdf_groups.specs.declared.form_fault.FormFault.{FormFault}
use Rattle.mdf_groups.specs.declared.form_fault.FormFault.TheVariants as form
use Rattle.mdf_groups.specs.declared.front.Front.{Front}
use Rattle.mdf_groups.specs.declared.group_fault.GroupFault.{GroupFault}
use Rattle.mdf_groups.specs.declared.group_fault.GroupFault.TheVariants as group
use Rattle.mdf_groups.specs.declared.placed_column.PlacedColumn.{PlacedColumn}
use Rattle.mdf_groups.specs.declared.record_fault.RecordFault.{RecordFault}
use Rattle.mdf_groups.specs.declared.record_fault.RecordFault.TheVariants as one
use Rattle.mdf_groups.specs.declared.record_time.RecordTime.{RecordTime}

-- the file that is written, and the form of the records of each of its groups
pub record FileOf : Type 0 where
  pub file : Written
  pub forms : List FormOf

-- the form of the records of columns, as these stand in samples of so many bytes
pub record IsFormFor (begins : Front) (len : ℕ) (columns : List PlacedColumn) (form : FormOf) :
    Type 0 where
  pub begins_so : form.front ≡ begins
  pub size : form.sample_bytes ≡ len
  pub placed : ArePlaced begins len 0 columns form.places form.own
  pub inside : All (ColumnLiesIn len) columns

-- the number of bytes of each record
abbrev pub record_bytes_of : FormOf → ℕ
record_bytes_of f = record_len f.front f.sample_bytes (length f.own)

-- a group without records
abbrev pub new_group : List ℕ → List ToldChannel → FormOf → WrittenGroup
new_group name channels f = record {
  name = name;
  channels = channels;
  record_bytes = record_bytes_of f;
  records = [];
}

-- there is one group more, the last one, and the form of its records; all else is as before
pub record AddsForm (old new : FileOf) (name : List ℕ) (channels : List ToldChannel) (f : FormOf) :
    Type 0 where
  pub group : GainsGroup old.file new.file (new_group name channels f)
  pub forms : new.forms ≡ old.forms ++ f ∷ []

-- it is a group of columns
pub record AddsGroup (old new : FileOf) (name : List ℕ) (begins : Front) (len : ℕ)
    (columns : List PlacedColumn) : Type 0 where
  pub form : FormOf
  pub is_form : IsFormFor begins len columns form
  pub channels : List ToldChannel
  pub are_channels : AreChannels form columns channels
  pub adds : AddsForm old new name channels form

-- the group of that number has one record more, the last one, which is that of a sample; all else
-- is as before
pub record AddsSample (old new : FileOf) (group : ℕ) (at : RecordTime) (mark : ℕ)
    (sample : List ℕ) : Type 0 where
  pub form : FormOf
  pub there : slice_get old.forms group ≡ Some form
  pub right_time : IsTimeFor form.front at
  pub right_length : length sample ≡ form.sample_bytes
  pub gains : GainsRecord old.file new.file group (record_of form.own at mark sample)
  pub forms : new.forms ≡ old.forms

-- the file failed by this: nothing was taken, and nothing will be
pub record FailsBy (old new : FileOf) (fault : GroupFault) : Type 0 where
  pub reason : MdfFault
  pub is_reason : fault ≡ group.File reason
  pub fails : HasFailed old.file new.file reason
  pub forms : new.forms ≡ old.forms

-- nothing was taken: all is as before, or the file failed by this
abbrev pub IsRefused : FileOf → FileOf → GroupFault → Type 0
IsRefused old new fault = (new ≡ old) ⊎ FailsBy old new fault

-- want of memory
abbrev pub is_form_memory : FormFault → Bool
is_form_memory form.Memory = true
is_form_memory form.TooLong = false
is_form_memory form.Outside = false

abbrev pub is_record_memory : RecordFault → Bool
is_record_memory one.Memory = true
is_record_memory one.WrongTime = false
is_record_memory one.WrongLength = false

abbrev pub is_file_memory : MdfFault → Bool
is_file_memory file.Memory = true
is_file_memory file.ZeroInText = false
is_file_memory file.LongConversion = false
is_file_memory file.NoRecordBytes = false
is_file_memory file.PartOfRecord = false
is_file_memory file.TooLong = false
is_file_memory file.NoGroup = false
is_file_memory file.Unwritten = false

abbrev pub is_memory : GroupFault → Bool
is_memory (group.Form fault) = is_form_memory fault
is_memory (group.Record fault) = is_record_memory fault
is_memory (group.File fault) = is_file_memory fault

-- the name of the group of a DAQ list
abbrev pub group_name : ℕ → ℕ → List ℕ
group_name list channel = codes "list " ++ decimal list ++ codes ", event " ++ decimal channel
