-- Items, read off blocks.
use Rattle.std.specs.Prelude.{ℕ, zero, suc, ◌+◌, ◌*◌, ◌%◌, ◌==◌, List, [], ◌∷◌, length, take, drop}
use Rattle.std.specs.Prelude.{nat_le, slice_index, if◌then◌else◌}
use Rattle.std.specs.Prelude.{flat_map}
use Rattle.std.specs.Int.{from_le_bytes, w32, w64}
use Rattle.xcp_base.specs.declared.item.Item.{Item}
use Rattle.xcp_base.specs.declared.item.Item.TheVariants.{Sample, Marker}
use Rattle.frame_ring.specs.Records.{blocks_for}

-- blocks as bytes
abbrev pub flat : List (List ℕ) → List ℕ
flat blocks = flat_map (λ block. block) blocks

-- LEN of the frame that stands first
abbrev pub len_at : List ℕ → ℕ
len_at bytes = slice_index bytes 0 + 256 * slice_index bytes 1

-- the packets of the first n frames
unfoldable pub packets_in : ℕ → List ℕ → List (List ℕ)
packets_in zero bytes = []
packets_in (suc n) bytes =
    take (len_at bytes) (drop 4 bytes) ∷ packets_in n (drop (len_at bytes) (drop 4 bytes))

-- the length of the frames that the head of a sample tells in its first block
abbrev pub frames_len : List ℕ → ℕ
frames_len block =
    from_le_bytes w32
    (slice_index block 4 ∷ slice_index block 5 ∷ slice_index block 6 ∷ slice_index block 7 ∷ [])

-- how many blocks the record has that begins with a block
unfoldable pub blocks_of : List ℕ → ℕ
blocks_of block = if slice_index block 0 == 1 then 2 + blocks_for (frames_len block) else 1

-- the item whose record has these bytes: of the event channel and the DAQ list the lower four bits
-- are read
unfoldable pub item_of : List ℕ → Item
item_of bytes =
    if slice_index bytes 0 == 1
    then Sample (record {
      channel = slice_index bytes 1 % 16;
      list = slice_index bytes 2 % 16;
      number = from_le_bytes w64 (take 8 (drop 8 bytes));
      packets = packets_in (slice_index bytes 3) (drop 16 bytes);
    })
    else Marker (record { channel = slice_index bytes 1 % 16; list = slice_index bytes 2 % 16 })

-- the items of the records that stand whole at the front, of which there are at most n
unfoldable pub items_from : ℕ → List (List ℕ) → List Item
items_from zero blocks = []
items_from (suc n) [] = []
items_from (suc n) (b ∷ bs) =
    if nat_le (blocks_of b) (length (b ∷ bs))
    then item_of (flat (take (blocks_of b) (b ∷ bs))) ∷ items_from n (drop (blocks_of b) (b ∷ bs))
    else []

-- the items of all records that stand whole at the front
unfoldable pub items_in : List (List ℕ) → List Item
items_in blocks = items_from (length blocks) blocks
