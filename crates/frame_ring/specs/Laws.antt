-- What holds of records.
use Rattle.std.specs.Prelude.{◌≡◌, All, List, [], ◌++◌}
use Rattle.xcp_base.specs.declared.item.Item.{Item}
use Rattle.frame_ring.specs.Reading.{items_in}
use Rattle.frame_ring.specs.Records.{IsItem, record_of, records_of}
use Rattle.std.specs.Prelude.{ℕ}

-- no record is a proper prefix of another
abbrev pub RecordsArePrefixFree : Type 0
RecordsArePrefixFree = (x y : Item) (rest : List (List ℕ)) → IsItem x → IsItem y
    → record_of y ≡ record_of x ++ rest → (y ≡ x) × (rest ≡ [])

-- records, one behind another, are those of at most one list of items
abbrev pub RecordsTellItems : Type 0
RecordsTellItems = (xs ys : List Item) → All IsItem xs → All IsItem ys
    → records_of xs ≡ records_of ys → xs ≡ ys

-- what is read off records, one behind another, are their items, and then what is read off what
-- follows
abbrev pub ItemsAreReadOffRecords : Type 0
ItemsAreReadOffRecords = (xs : List Item) (blocks : List (List ℕ)) → All IsItem xs
    → items_in (records_of xs ++ blocks) ≡ xs ++ items_in blocks
