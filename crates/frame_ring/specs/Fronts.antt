-- Blocks with which records begin.
use Rattle.std.specs.Prelude.{◌≡◌, All, ℕ, List}
use mathlib.Core.List.{IsPrefix}
use Rattle.xcp_base.specs.declared.item.Item.{Item}
use Rattle.frame_ring.specs.Reading.{items_in}
use Rattle.frame_ring.specs.Records.{IsItem, records_of}

-- these blocks are records, one behind another: those of the items that are read off them
pub record AreRecords (blocks : List (List ℕ)) : Type 0 where
  pub each : All IsItem (items_in blocks)
  pub are : blocks ≡ records_of (items_in blocks)

-- the records of some items, one behind another, begin with these blocks
pub record BeginRecords (blocks : List (List ℕ)) : Type 0 where
  pub items : List Item
  pub each : All IsItem items
  pub begin : IsPrefix blocks (records_of items)
