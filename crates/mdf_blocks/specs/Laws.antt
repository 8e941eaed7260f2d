-- What is read of the blocks that were written.
use Rattle.std.specs.Prelude.{◌≡◌, ℕ, ◌+◌, ◌%◌, ◌≤◌, List, ◌++◌, length, slice_range}
use Rattle.mdf_blocks.specs.Blocks.{IsBlock, IsBlockAt, block, block_len, filled}

-- a block that begins at a multiple of 8 is read as what it was written of, whatever stands in
-- front of it and behind it
abbrev pub WrittenIsRead : Type 0
WrittenIsRead =
    (front back id links body : List ℕ) → IsBlock id links body → length front % 8 ≡ 0
    → IsBlockAt (front ++ block id links body ++ back) (length front) id links body

-- bytes are read as a block in at most one way
abbrev pub ReadOneWay : Type 0
ReadOneWay =
    (bytes : List ℕ) (at : ℕ) (id links body id2 links2 body2 : List ℕ)
    → IsBlockAt bytes at id links body → IsBlockAt bytes at id2 links2 body2
    → (id ≡ id2) × (links ≡ links2) × (body ≡ body2)

-- a block is still read where its own bytes stay, whatever becomes of others
abbrev pub StaysRead : Type 0
StaysRead =
    (old new : List ℕ) (at : ℕ) (id links body : List ℕ) → IsBlockAt old at id links body
    → at + block_len links body ≤ length new
    → slice_range new at (at + block_len links body)
    ≡ slice_range old at (at + block_len links body)
    → IsBlockAt new at id links body

-- so it is behind bytes that are appended
abbrev pub ReadBehind : Type 0
ReadBehind =
    (bytes more : List ℕ) (at : ℕ) (id links body : List ℕ) → IsBlockAt bytes at id links body
    → IsBlockAt (bytes ++ more) at id links body

-- behind a block's fill the next one may begin
abbrev pub FillAligns : Type 0
FillAligns =
    (bytes : List ℕ) → length (filled bytes) % 8 ≡ 0
