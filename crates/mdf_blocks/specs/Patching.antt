-- Bytes of a file that are written over, as counts and links are at its end.
use Rattle.std.specs.Prelude.{◌≡◌, ◌⊎◌, ℕ, ◌+◌, ◌%◌, ◌≤◌, List, ◌++◌, drop, length, take}
use Rattle.mdf_blocks.specs.Blocks.{IsBlock, IsBlockAt, block, block_len}

-- bytes in which a part is written over, from a place on
abbrev pub patched : List ℕ → ℕ → List ℕ → List ℕ
patched bytes at part = take at bytes ++ part ++ drop (at + length part) bytes

-- a block that is written over others is read
abbrev pub PatchIsRead : Type 0
PatchIsRead =
    (bytes : List ℕ) (at : ℕ) (id links body : List ℕ) → IsBlock id links body → at % 8 ≡ 0
    → at + block_len links body ≤ length bytes
    → IsBlockAt (patched bytes at (block id links body)) at id links body

-- and each block that ends in front of the part, or begins behind it, is still read
abbrev pub PatchKeeps : Type 0
PatchKeeps =
    (bytes part : List ℕ) (at place : ℕ) (id links body : List ℕ)
    → IsBlockAt bytes place id links body → at + length part ≤ length bytes
    → (place + block_len links body ≤ at) ⊎ (at + length part ≤ place)
    → IsBlockAt (patched bytes at part) place id links body
