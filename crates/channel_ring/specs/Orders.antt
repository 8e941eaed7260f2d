-- What contracts see of a ring of orders.
use Rattle.std.specs.Prelude.{◌≡◌, ℕ, ◌≤◌, List, []}
use Rattle.channel_ring.specs.Ends.{RingName}
use Rattle.channel_ring.specs.declared.order.Order.{Order}

-- a send end: the orders that were sent, oldest first; how many places are known to be free; and
-- how many there are
pub record SendState : Type 0 where
  pub sent : List Order
  pub free : ℕ
  pub capacity : ℕ
  pub ring : RingName

-- a take end: the orders that were taken, and those that are known to be there, oldest first
pub record TakeState : Type 0 where
  pub received : List Order
  pub known : List Order
  pub ring : RingName

-- what is left of a send end that was finished: all orders that were sent, oldest first
pub record EndedState : Type 0 where
  pub sent : List Order
  pub ring : RingName

-- the two ends of a new ring with so many places, which are free
pub record AreEnds (places : ℕ) (s : SendState) (t : TakeState) : Type 0 where
  pub one_ring : s.ring ≡ t.ring
  pub sent : s.sent ≡ []
  pub capacity : s.capacity ≡ places
  pub free : s.free ≡ places
  pub received : t.received ≡ []
  pub known : t.known ≡ []

-- a look at the other end of a ring: more places may be known to be free
pub record LooksForRoom (a b : SendState) : Type 0 where
  pub rest : b ≡ record a { free = b.free }
  pub grows : a.free ≤ b.free
