-- How what was handed in stands in the blocks of a file, and in buffers behind them.
use Rattle.std.specs.Prelude.{◌≡◌, ℕ, ◌+◌, ◌%◌, ◌^◌, ◌≤◌, ◌<◌, List, [], ◌∷◌, ◌++◌, All, Option}
use Rattle.std.specs.Prelude.{IfSome, length, map, string_bytes, take}
use Rattle.std.specs.Io.KnownBytes.{append_known}
use Rattle.std.specs.List.{concat}
use Rattle.mdf_blocks.specs.Blocks.{filled}
use Rattle.mdf_blocks.specs.Records.{dt_block}
use Rattle.mdf_blocks.specs.Tables.{id_block}
use Rattle.mdf_blocks.specs.Told.{AreListed}
use Rattle.mdf_file.specs.Adding.{Says}
use Rattle.mdf_file.specs.Describing.{told_channel}
use Rattle.mdf_file.specs.Writing.{WrittenGroup, unfinished}
use Rattle.mdf_file.specs.declared.open_group.OpenGroup.{OpenGroup}

-- a group as it is seen from outside
abbrev pub seen : OpenGroup → WrittenGroup
seen g = record {
  name = string_bytes g.told.name;
  channels = map told_channel g.told.channels.items;
  record_bytes = g.told.record_bytes;
  records = g.log.records;
}

-- those of its bytes that stand in blocks
abbrev pub in_blocks : OpenGroup → List ℕ
in_blocks g = take g.told.len (concat g.log.records)

-- its records are those in blocks and those in the buffer, and none is empty
pub record IsHandled (g : OpenGroup) : Type 0 where
  pub some : 0 < g.told.record_bytes
  pub joined : concat g.log.records ≡ in_blocks g ++ g.buffer.items
  pub long : length (in_blocks g) ≡ g.told.len
  pub none_empty : All (λ r. 0 < length r) g.log.records

abbrev pub IsEmpty : OpenGroup → Type 0
IsEmpty g = g.buffer.items ≡ []

-- the blocks of all groups hold what is in them
abbrev pub AllHold : List OpenGroup → List ℕ → Type 0
AllHold gs bytes = All (λ g. AreListed bytes 0 g.told.blocks.items (in_blocks g)) gs

-- a file that was begun: what it begins with, and blocks up to a place
pub record IsBegun (bytes : List ℕ) (place : ℕ) (gs : List OpenGroup) : Type 0 where
  pub program : List ℕ
  pub header : List ℕ
  pub before : List ℕ
  pub is : bytes ≡ (id_block unfinished program ++ header) ++ before
  pub program_long : length program ≡ 8
  pub front_long : length (id_block unfinished program ++ header) ≡ 168
  pub reaches : 168 + length before ≡ place
  pub held : Says 168 before (AllHold gs)

pub record IsStanding (known : Option (List ℕ)) (place : ℕ) (gs : List OpenGroup) : Type 0 where
  pub far : 168 ≤ place
  pub aligned : place % 8 ≡ 0
  pub handled : All IsHandled gs
  pub begun : IfSome known (λ bytes. IsBegun bytes place gs)

-- a group's buffer is listed as a block that stands at a place
pub record IsListedAt (old new : OpenGroup) (place : ℕ) : Type 0 where
  pub same : seen new ≡ seen old
  pub blocks : new.told.blocks.items
      ≡ old.told.blocks.items ++ record { place = place; offset = old.told.len } ∷ []
  pub len : new.told.len ≡ old.told.len + length old.buffer.items
  pub empty : IsEmpty new

-- a block of records was appended that ends at a place
pub record HasBlock (old new : Option (List ℕ)) (place next : ℕ) (records : List ℕ)
    : Type 0 where
  pub known : new ≡ append_known old (filled (dt_block records))
  pub few : length records < 2 ^ 63
  pub ends : next ≡ place + length (filled (dt_block records))
