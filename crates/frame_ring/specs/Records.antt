-- Records of a ring of frames: each item in blocks of eight bytes, as it will be sent.
use Rattle.std.specs.Prelude.{ℕ, ◌+◌, ◌-◌, ◌*◌, ◌/◌, ◌<◌, ◌^◌, List, [], ◌∷◌, ◌++◌}
use Rattle.std.specs.Prelude.{length}
use Rattle.std.specs.Prelude.{replicate}
use Rattle.std.specs.Int.{to_le_bytes, w32, w64}
use Rattle.std.proofs.Props.{props}
use Rattle.std.specs.Simd.{first_chunks}
use Rattle.xcp_base.specs.Samples.{IsMark, SampleParts}
use Rattle.xcp_base.specs.declared.item.Item.{Item}
use Rattle.xcp_base.specs.declared.item.Item.TheVariants.{Sample, Marker}
use Rattle.xcp_base.specs.declared.limits.TheConstants.{MAX_CHANNELS, MAX_LISTS}
use Rattle.channel_ring.specs.Making.{ArePackets}
use Rattle.frame_writer.specs.Frame.{unnumbered}

-- as many blocks as have room for n bytes
abbrev pub blocks_for : ℕ → ℕ
blocks_for n = (n + 7) / 8

-- bytes, and 00 behind them up to a multiple of eight
abbrev pub filled : List ℕ → List ℕ
filled bytes = bytes ++ replicate (8 * blocks_for (length bytes) - length bytes) 0

-- the head of a sample: 01, event channel, DAQ list, number of packets, length of the frames (4
-- bytes), number of the sample (8 bytes), the least significant byte first
abbrev pub head_bytes : SampleParts → List ℕ
head_bytes s =
    1 ∷ s.channel ∷ s.list ∷ length s.packets
    ∷ (to_le_bytes w32 (length (unnumbered s.packets)) ++ to_le_bytes w64 s.number)

-- a sample: its head, and its frames; a stop marker: 02, event channel, DAQ list
unfoldable pub bytes_of : Item → List ℕ
bytes_of (Sample s) = head_bytes s ++ filled (unnumbered s.packets)
bytes_of (Marker m) = 2 ∷ m.channel ∷ m.list ∷ 0 ∷ 0 ∷ 0 ∷ 0 ∷ 0 ∷ []

-- bytes in blocks
abbrev pub in_blocks : List ℕ → List (List ℕ)
in_blocks bytes = first_chunks 8 (length bytes / 8) bytes

-- the record of an item
abbrev pub record_of : Item → List (List ℕ)
record_of x = in_blocks (bytes_of x)

-- the blocks that an item takes up
abbrev pub cost : Item → ℕ
cost x = length (record_of x)

-- the records of some items, one behind another
abbrev pub records_of : List Item → List (List ℕ)
records_of [] = []
records_of (x ∷ xs) = record_of x ++ records_of xs

-- what every sample keeps to
pub record IsSample (s : SampleParts) : Type 0 where
  pub channel : s.channel < MAX_CHANNELS
  pub list : s.list < MAX_LISTS
  pub number : s.number < 2 ^ 64
  pub packets : ArePackets s.packets

-- what every item keeps to
abbrev pub IsItem : Item → Type 0
IsItem (Sample s) = IsSample s
IsItem (Marker m) = IsMark m

-- it is a fact
pub IsItem-prop : (x : Item) → IsProp (IsItem x)
IsItem-prop (Sample s) = hlevel props
IsItem-prop (Marker m) = hlevel props

-- so what is kept of records has one proof at most
pub ruleset item_props = (props, IsItem-prop)
