-- What a file tells is still told when bytes come behind it, or when blocks are rewritten that it
-- wasn't read of.
use Rattle.std.specs.Prelude.{◌≡◌, ◌≢◌, ℕ, ◌%◌, ◌^◌, ◌<◌, List, ◌++◌, All, Some, codes, length}
use Rattle.mdf_blocks.specs.Blocks.{IsBlockAt}
use Rattle.mdf_blocks.specs.Texts.{md_block, tx_block}
use Rattle.mdf_blocks.specs.Told.{TellsChannels, TellsFile, TellsGroups, TellsHistories}
use Rattle.mdf_blocks.specs.Told.{TellsRecords, TellsText, ToldChannel, ToldFile, ToldGroup}
use Rattle.mdf_blocks.specs.Told.{ToldHistory}

-- a text that was written at a multiple of 8 is told, to its end if it has no byte of 0
abbrev pub WrittenTextIsTold : Type 0
WrittenTextIsTold =
    (front behind text : List ℕ) → 0 < length front → length front % 8 ≡ 0
    → All (λ b. b ≢ 0) text → length text < 2 ^ 63
    → TellsText (front ++ tx_block text ++ behind) (codes "##TX") (length front) (Some text)
    × TellsText (front ++ md_block text ++ behind) (codes "##MD") (length front) (Some text)

-- each block that was read is read again
abbrev pub KeepsBlocks : List ℕ → List ℕ → Type 0
KeepsBlocks old new =
    (at : ℕ) (id links body : List ℕ) → IsBlockAt old at id links body
    → IsBlockAt new at id links body

-- then channels, records, groups and histories tell what they told
pub record StaysTold : Type 0 where
  pub channels :
      (old new : List ℕ) (link : ℕ) (told : List ToldChannel) → KeepsBlocks old new
      → TellsChannels old link told → TellsChannels new link told
  pub records :
      (old new : List ℕ) (link : ℕ) (told : List ℕ) → KeepsBlocks old new
      → TellsRecords old link told → TellsRecords new link told
  pub groups :
      (old new : List ℕ) (link : ℕ) (told : List ToldGroup) → KeepsBlocks old new
      → TellsGroups old link told → TellsGroups new link told
  pub histories :
      (old new : List ℕ) (link : ℕ) (told : List ToldHistory) → KeepsBlocks old new
      → TellsHistories old link told → TellsHistories new link told
  -- and a whole file does, if bytes come behind it
  pub file :
      (bytes more : List ℕ) (told : ToldFile) → TellsFile bytes told
      → TellsFile (bytes ++ more) told
