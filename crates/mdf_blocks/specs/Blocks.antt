-- What all blocks have in common (ASAM MDF 4.1, general block structure): an identification of
-- four letters, the length of the block, the number of its links, the links, and its data section.
use Rattle.std.specs.Prelude.{◌≡◌, ℕ, ◌+◌, ◌-◌, ◌*◌, ◌%◌, ◌^◌, ◌<◌, ◌≤◌, List, ◌++◌}
use Rattle.std.specs.Prelude.{All, length, slice_range}
use Rattle.mdf_blocks.specs.Numbers.{AreUint64s, uint64, uint64_at, uint64s, zeros}

-- the bytes of a block in front of its data section
abbrev pub head_len : List ℕ → ℕ
head_len links = 24 + 8 * length links

-- the length of a block, with its header and its links
abbrev pub block_len : List ℕ → List ℕ → ℕ
block_len links body = head_len links + length body

-- what stands in front of its links
abbrev pub block_head : List ℕ → ℕ → ℕ → List ℕ
block_head id len link_count =
    id  -- id
    ++ zeros 4  -- reserved
    ++ uint64 len  -- length
    ++ uint64 link_count  -- link_count

-- a block
abbrev pub block : List ℕ → List ℕ → List ℕ → List ℕ
block id links body =
    block_head id (block_len links body) (length links) ++ uint64s links ++ body

-- how many bytes of 0 stand behind so many bytes, so that the next block begins at a multiple of 8
abbrev pub fill_len : ℕ → ℕ
fill_len n = 7 - (n + 7) % 8

-- a block of any length, and the bytes up to the place where the next one may begin
abbrev pub filled : List ℕ → List ℕ
filled bytes = bytes ++ zeros (fill_len (length bytes))

-- these links and this data section make a block: each link, and the length, has 64 bits
pub record IsBlock (id links body : List ℕ) : Type 0 where
  pub letters : length id ≡ 4
  pub places : All (λ link. link < 2 ^ 64) links
  pub limit : block_len links body < 2 ^ 64

-- a block stands at a place in the bytes of a file, with these letters, links and data section
pub record IsBlockAt (bytes : List ℕ) (at : ℕ) (id links body : List ℕ) : Type 0 where
  pub aligned : at % 8 ≡ 0
  pub within : at + block_len links body ≤ length bytes
  pub letters : slice_range bytes at (at + 4) ≡ id
  pub len : uint64_at (at + 8) bytes ≡ block_len links body
  pub link_count : uint64_at (at + 16) bytes ≡ length links
  pub links_are : AreUint64s (at + 24) bytes links
  pub body_is :
      slice_range bytes (at + head_len links) (at + block_len links body) ≡ body
