-- What holds of records.
use Rattle.std.specs.Prelude.{◌≡◌, ℕ, All, List, [], ◌++◌}
use mathlib.Core.List.{IsPrefix}
use Rattle.xcp_base.specs.declared.item.Item.{Item}
use Rattle.byte_ring.specs.Records.{IsItem, record_of, records_of}
use Rattle.byte_ring.specs.Reading.{items_in}

-- no record is a proper prefix of another
abbrev pub RecordsArePrefixFree : Type 0
RecordsArePrefixFree = (x y : Item) (rest : List ℕ) → IsItem x → IsItem y
    → record_of y ≡ record_of x ++ rest → (y ≡ x) × (rest ≡ [])

-- records, one behind another, are those of at most one list of items
abbrev pub RecordsTellItems : Type 0
RecordsTellItems = (xs ys : List Item) → All IsItem xs → All IsItem ys
    → records_of xs ≡ records_of ys → xs ≡ ys

-- these are items, whose records stand at the front of the bytes
pub record StandInFront (bytes : List ℕ) (xs : List Item) : Type 0 where
  pub each : All IsItem xs
  pub front : IsPrefix (records_of xs) bytes

-- what is read off bytes is the longest list of items whose records stand at the front
abbrev pub ItemsAreLongest : Type 0
ItemsAreLongest = (bytes : List ℕ) → StandInFront bytes (items_in bytes)
    × ((xs : List Item) → StandInFront bytes xs → IsPrefix xs (items_in bytes))
