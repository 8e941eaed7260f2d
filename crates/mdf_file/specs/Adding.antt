-- Bytes of blocks that are to stand in a file from a place on.
use Rattle.std.specs.Prelude.{◌≡◌, ℕ, ◌+◌, ◌%◌, ◌^◌, ◌<◌, List, ◌++◌, All, length}
use Rattle.mdf_blocks.specs.Records.{offsets_of, places_of}
use Rattle.mdf_blocks.specs.declared.listed_data.ListedData.{ListedData}

-- they say something, whatever stands in front of them and behind them
abbrev pub Says : ℕ → List ℕ → (List ℕ → Type 0) → Type 0
Says place bytes Told =
    (front behind : List ℕ) → length front ≡ place → Told (front ++ bytes ++ behind)

-- blocks come behind others, and all together they say something
pub record Adds (place : ℕ) (old new : List ℕ) (Told : List ℕ → Type 0) : Type 0 where
  pub more : List ℕ
  pub behind : new ≡ old ++ more
  pub aligned : (place + length new) % 8 ≡ 0
  pub says : Says place new Told

-- the numbers of a list of data blocks have 64 bits
abbrev pub AreSmall : List ListedData → Type 0
AreSmall blocks =
    All (λ n. n < 2 ^ 64) (places_of blocks) × All (λ n. n < 2 ^ 64) (offsets_of blocks)
