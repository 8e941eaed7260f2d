-- What the first block of a record tells.
use Rattle.std.specs.Prelude.{◌≡◌, ℕ, ◌+◌, ◌%◌, ◌==◌, List, length, slice_index, if◌then◌else◌}
use Rattle.xcp_base.specs.declared.item.Item.{Item}
use Rattle.xcp_base.specs.declared.item.Item.TheVariants as item
use Rattle.frame_ring.specs.Reading.{frames_len}
use Rattle.frame_ring.specs.Records.{blocks_for}
use Rattle.frame_writer.specs.Frame.{unnumbered}
use Rattle.frame_ring.specs.declared.head.Head.{Head}
use Rattle.frame_ring.specs.declared.head.Head.TheVariants.{Sample, Marker}

-- the head that a block has
unfoldable pub head_of : List ℕ → Head
head_of block =
    if slice_index block 0 == 1
    then Sample (slice_index block 2 % 16) (slice_index block 3) (frames_len block)
    else Marker (slice_index block 2 % 16)

-- the blocks of the record that has this head
abbrev pub head_blocks : Head → ℕ
head_blocks (Sample list packets len) = 2 + blocks_for len
head_blocks (Marker list) = 1

-- the head of an item's record
abbrev pub item_head : Item → Head
item_head (item.Sample s) = Sample s.list (length s.packets) (length (unnumbered s.packets))
item_head (item.Marker m) = Marker m.list

-- a head is that of an item, but for the length of the frames
abbrev pub IsHeadOf : Head → Item → Type 0
IsHeadOf (Sample list packets len) (item.Sample s) = (list ≡ s.list) × (packets ≡ length s.packets)
IsHeadOf (Sample list packets len) (item.Marker m) = ⊥
IsHeadOf (Marker list) (item.Sample s) = ⊥
IsHeadOf (Marker list) (item.Marker m) = list ≡ m.list
