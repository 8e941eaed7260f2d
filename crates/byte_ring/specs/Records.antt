-- Records of the ring of bytes: each item in bytes.
use Rattle.std.specs.Prelude.{ℕ, List, [], ◌∷◌, ◌++◌, length}
use Rattle.std.specs.Int.{to_le_bytes, w64}
use Rattle.xcp_base.specs.Bodies.{body_of}
use Rattle.xcp_base.specs.Samples.{IsMark, IsSample}
use Rattle.xcp_base.specs.declared.item.Item.{Item}
use Rattle.xcp_base.specs.declared.item.Item.TheVariants.{Sample, Marker}

-- a sample: 01, event channel, DAQ list, number (8 bytes, the least significant first), number of
-- packets, then each packet behind its length; a stop marker: 02, event channel, DAQ list
unfoldable pub record_of : Item → List ℕ
record_of (Sample s) =
    1 ∷ s.channel ∷ s.list ∷ (to_le_bytes w64 s.number ++ length s.packets ∷ body_of s.packets)
record_of (Marker m) = 2 ∷ m.channel ∷ m.list ∷ []

-- the bytes that an item takes up
abbrev pub record_len : Item → ℕ
record_len x = length (record_of x)

-- the records of some items, one behind another
abbrev pub records_of : List Item → List ℕ
records_of [] = []
records_of (x ∷ xs) = record_of x ++ records_of xs

-- what every item keeps to
abbrev pub IsItem : Item → Type 0
IsItem (Sample s) = IsSample s
IsItem (Marker m) = IsMark m
