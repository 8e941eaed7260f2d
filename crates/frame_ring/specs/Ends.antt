-- What contracts see of the two ends of a ring of frames.
use Rattle.std.specs.Prelude.{◌≡◌, ℕ, ◌+◌, ◌-◌, ◌*◌, ◌<◌, ◌≤◌, List, [], ◌∷◌, ◌++◌, length}
use mathlib.Core.List.{IsPrefix}
use Rattle.xcp_base.specs.declared.item.Item.{Item}
use Rattle.xcp_base.specs.declared.limits.TheConstants.{MAX_ODTS_IN_ALL, MAX_PACKET}
use Rattle.channel_ring.specs.Ends.{RingName}
use Rattle.channel_ring.specs.Making.{SampleLimit}
use Rattle.frame_ring.specs.Heads.{IsHeadOf, head_of, item_head}
use Rattle.frame_ring.specs.Records.{IsItem, cost, record_of}
use Rattle.frame_ring.specs.declared.head.Head.{Head}

-- a send end: the items that were sent, oldest first; how many blocks of them are held back, and
-- not in the ring yet; how many blocks are known to be free for further ones, and how many there
-- are; and how many the longest record has that it can make
pub record SendState : Type 0 where
  pub sent : List Item
  pub held : ℕ
  pub free : ℕ
  pub capacity : ℕ
  pub room : ℕ
  pub ring : RingName

-- a take end: the items that were taken, and those that are known to be in the ring, oldest first;
-- and the first block that is known
pub record TakeState : Type 0 where
  pub received : List Item
  pub known : List Item
  pub front : List ℕ
  pub ring : RingName

-- what is left of a send end that was finished: all items that were sent, oldest first
pub record EndedState : Type 0 where
  pub sent : List Item
  pub ring : RingName

-- the samples whose records have at most so many blocks, two of which are the head
abbrev pub limit_of : ℕ → SampleLimit
limit_of room = record {
  count = MAX_ODTS_IN_ALL;
  packet = MAX_PACKET;
  frames = 8 * (room - 2);
}

-- a new ring of so many blocks, with room for a record of so many
pub record AreEnds (capacity room : ℕ) (s : SendState) (t : TakeState) : Type 0 where
  pub one_ring : s.ring ≡ t.ring
  pub sent : s.sent ≡ []
  pub held : s.held ≡ 0
  pub free : s.free ≡ capacity
  pub capacity_is : s.capacity ≡ capacity
  pub room_is : s.room ≡ room
  pub received : t.received ≡ []
  pub known : t.known ≡ []

-- an item was sent, which takes up its blocks
pub record Sends (a b : SendState) (item : Item) : Type 0 where
  pub sent : b.sent ≡ a.sent ++ item ∷ []
  pub spent : a.free ≤ b.free + cost item

-- an item was not sent, since too few blocks were known to be free, also after a look at the other
-- end; nothing else happened
pub record SendsNothing (a b : SendState) (item : Item) : Type 0 where
  pub rest : b ≡ record a { free = b.free }
  pub grows : a.free ≤ b.free
  pub short : b.free < cost item

-- a look at a take end's other end: more items may be known, and the first stays the first
pub record LooksForItems (a b : TakeState) : Type 0 where
  pub received : b.received ≡ a.received
  pub grows : IsPrefix a.known b.known
  pub front : 0 < length a.known → b.front ≡ a.front
  pub ring : b.ring ≡ a.ring

-- a head is what the first block of a ring tells, and so is that of the first item known
pub record IsFirstHead (head : Head) (t : TakeState) : Type 0 where
  pub told : head ≡ head_of t.front
  pub item : Item
  pub first : IsPrefix (item ∷ []) t.known
  pub names : IsHeadOf head item

-- the first item that was known was taken, as its record; and none of the others is forgotten
pub record TakesFirst (a b : TakeState) (blocks : List (List ℕ)) : Type 0 where
  pub item : Item
  pub is_item : IsItem item
  pub record_is : blocks ≡ record_of item
  pub head_is : head_of a.front ≡ item_head item
  pub first : IsPrefix a.known (item ∷ b.known)
  pub received : b.received ≡ a.received ++ item ∷ []
  pub ring : b.ring ≡ a.ring

-- a look at a send end's other end: more blocks may be known to be free
pub record LooksForRoom (a b : SendState) : Type 0 where
  pub rest : b ≡ record a { free = b.free }
  pub grows : a.free ≤ b.free

-- what a send end is made with stays
pub record StaysMade (a b : SendState) : Type 0 where
  pub capacity : b.capacity ≡ a.capacity
  pub room : b.room ≡ a.room
  pub ring : b.ring ≡ a.ring
