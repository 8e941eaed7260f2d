-- Inner: the record that stands first, and the item that a take end has ready.
use Rattle.std.specs.Prelude.{◌≡◌, ℕ, ◌≤◌, true, List, ◌++◌, length, take}
use Rattle.rtrb.specs.Ring.{known_items}
use Rattle.rtrb.specs.declared.consumer.Consumer.{Consumer}
use Rattle.xcp_base.specs.declared.item.Item.{Item}
use Rattle.byte_ring.specs.declared.front.Front.{Front}
use Rattle.byte_ring.specs.Held.{Place}
use Rattle.byte_ring.specs.Places.{place}
use Rattle.byte_ring.specs.Reading.{is_item, items_in}
use Rattle.byte_ring.specs.Records.{record_of}

-- the bytes that are held
abbrev pub part : Front → List ℕ
part f = take f.held f.bytes

-- where a take end stands
abbrev pub place_of : {A P : Type 0} → Consumer ℕ A P → Front → Place
place_of c f = place c f.ahead (part f)

-- the items that are known: their records stand in what is held and in the bytes known to be there
abbrev pub known_of : {A P : Type 0} → Consumer ℕ A P → Front → List Item
known_of c f = items_in (part f ++ take f.ahead (known_items c))

-- the bytes held and the next one, which is still in the ring
abbrev pub seen : List ℕ → List ℕ → List ℕ
seen held ahead = held ++ take 1 ahead

-- the record of an item stands first: all of it is held but its last byte, which is in the ring
pub record IsFirst (x : Item) (held ahead : List ℕ) : Type 0 where
  pub item : is_item x ≡ true
  pub inside : 1 ≤ length ahead
  pub whole : record_of x ≡ seen held ahead

-- as many bytes as are told are in the ring; if the item is ready, its record stands first
pub record IsReady {A P : Type 0} (c : Consumer ℕ A P) (f : Front) : Type 0 where
  pub there : f.ahead ≤ length (known_items c)
  pub first : f.is_ready ≡ true → IsFirst f.item (part f) (take f.ahead (known_items c))
