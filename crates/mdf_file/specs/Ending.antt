-- Groups whose records stand in a file already.
use Rattle.std.specs.Prelude.{◌≡◌, ℕ, List, [], ◌∷◌, Some, length, map, string_bytes}
use Rattle.mdf_blocks.specs.Told.{AreListed, ToldFile, ToldGroup}
use Rattle.mdf_blocks.specs.declared.file_state.FileState.TheVariants.{Finished}
use Rattle.mdf_file.specs.declared.about.About.{About}
use Rattle.mdf_file.specs.Describing.{told_channel}
use Rattle.mdf_file.specs.declared.streamed_group.StreamedGroup.{StreamedGroup}

abbrev pub told_group : StreamedGroup → List ℕ → ToldGroup
told_group g records = record {
  name = Some (string_bytes g.name);
  channels = map told_channel g.channels.items;
  record_bytes = g.record_bytes;
  records = records;
}

-- a finished file, by what it says of itself, and by its groups
abbrev pub told_file : About → List ToldGroup → ToldFile
told_file a groups = record {
  state = Finished;
  start = a.start;
  histories = record { time = a.start; comment = Some (string_bytes a.comment) } ∷ [];
  groups = groups;
}

-- each group tells its records
abbrev pub AreOf : List StreamedGroup → List ToldGroup → Type 0
AreOf [] told = told ≡ []
AreOf (g ∷ gs) [] = ⊥
AreOf (g ∷ gs) (t ∷ ts) =
    (t ≡ told_group g t.records) × (length t.records ≡ g.len) × AreOf gs ts

-- the blocks of each group hold its records
abbrev pub HoldRecords : List ℕ → List StreamedGroup → List ToldGroup → Type 0
HoldRecords bytes [] told = Unit {0}
HoldRecords bytes (g ∷ gs) [] = ⊥
HoldRecords bytes (g ∷ gs) (t ∷ ts) =
    AreListed bytes 0 g.blocks.items t.records × HoldRecords bytes gs ts
