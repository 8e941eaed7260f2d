-- Where the records of a data group stand (ASAM MDF 4.1, DT and DL).
use Rattle.std.specs.Prelude.{ℕ, List, [], ◌∷◌, ◌++◌, codes, length, map}
use Rattle.mdf_blocks.specs.Blocks.{block}
use Rattle.mdf_blocks.specs.Numbers.{uint32, uint64s, uint8, zeros}
use Rattle.mdf_blocks.specs.declared.listed_data.ListedData.{ListedData}

-- DT: records one behind another
abbrev pub dt_block : List ℕ → List ℕ
dt_block records = block (codes "##DT") [] records

-- DL: where data blocks stand, and how many bytes of records stand in the blocks before each
abbrev pub places_of : List ListedData → List ℕ
places_of blocks = map (λ b. b.place) blocks

abbrev pub offsets_of : List ListedData → List ℕ
offsets_of blocks = map (λ b. b.offset) blocks

abbrev pub dl_links : ℕ → List ListedData → List ℕ
dl_links next blocks =
    next  -- dl_dl_next
    ∷ places_of blocks  -- dl_data

abbrev pub dl_front : ℕ → List ℕ
dl_front count =
    uint8 0  -- dl_flags: bit 0, all blocks but the last are of one length
    ++ zeros 3  -- reserved
    ++ uint32 count  -- dl_count

abbrev pub dl_body : List ListedData → List ℕ
dl_body blocks =
    dl_front (length blocks)
    ++ uint64s (offsets_of blocks)  -- dl_offset

abbrev pub dl_block : ℕ → List ListedData → List ℕ
dl_block next blocks = block (codes "##DL") (dl_links next blocks) (dl_body blocks)
