-- The slave's side of a task.
use Rattle.std.specs.Prelude.{◌≡◌, ◌≢◌, ℕ, ◌+◌, ◌≤◌, ◌⊎◌, Bool, true, false, ◌&&◌, ◌||◌, not}
use Rattle.std.specs.Prelude.{nat_eq, List, [], ◌∷◌, ◌++◌, length}
use Rattle.std.specs.Prelude.{Option, Some, None, Result, Ok, Err}
use mathlib.Core.List.{IsPrefix}
use Rattle.channel_ring.specs.Orders.{TakeState}
use Rattle.std.specs.Option.{is_some}
use Rattle.channel_ring.specs.declared.ends.SendEnd.{Ghosts as SendGhosts}
use Rattle.channel_ring.specs.declared.ends.RingEnd.{Ghosts as EndGhosts}
use Rattle.channel_ring.specs.Ends.{RingName}
use Rattle.sampler.specs.Past.{Past}
use Rattle.sampler.specs.Standing.{EndStandsAfter, StandsAfter}
use Rattle.sampler.specs.State.{SamplerEndState, SamplerState, joined, runs_in}
use Rattle.hand_over.specs.Newest.{one_before}
use Rattle.tasks.specs.Deeds.{Deed, is_end, orders_in, past_after}
use Rattle.tasks.specs.Needs.{places_for}
use Rattle.tasks.specs.Ways.{IsLeftOf, LeftState, seen_of}
use Rattle.tasks.specs.declared.fault.HandFault.{HandFault}
use Rattle.tasks.specs.declared.fault.HandFault.TheVariants.{Busy, NotEnded}
use Rattle.channel_ring.specs.declared.order.Order.{Order}
use Rattle.channel_ring.specs.declared.order.Order.TheVariants as order
use Rattle.xcp_base.specs.declared.limits.TheConstants.{MAX_CONTROL_RING}

-- a sampler that was handed out, and the task's end of its orders, as they were then; the orders
-- that were sent behind it; how many places for orders are known to be free; whether its
-- measurement has ended; whether it is out; and whether it was recalled, and is here as it went
pub record AwayState (S : Type 0) : Type 0 where
  pub sampler : SamplerState S
  pub went : TakeState
  pub orders : List Order
  pub free : ℕ
  pub ended : Bool
  pub out : Bool
  pub here : Bool

-- the name of the line with the task; what came back over it, the oldest first, and what is known
-- to come next; and the two samplers that were handed out last, of which something may be kept: the
-- one before the last, and the last
pub record LinkState (S : Type 0) : Type 0 where
  pub ring : RingName
  pub came : List LeftState
  pub coming : List LeftState
  pub older : Option (AwayState S)
  pub newer : Option (AwayState S)

-- whether list l runs behind an order, if it ran so before
abbrev pub runs_behind : Order → Bool → ℕ → Bool
runs_behind (order.Start k) before l = before || nat_eq k l
runs_behind (order.Stop k) before l = before && not (nat_eq k l)
runs_behind order.End before l = before

-- whether list l runs by orders: by the last start or stop of it, or as before if there is none
abbrev pub runs_by : List Order → Bool → ℕ → Bool
runs_by [] before l = before
runs_by (o ∷ os) before l = runs_by os (runs_behind o before l) l

-- a set without list l
abbrev pub without : ℕ → (ℕ → Bool) → ℕ → Bool
without l set k = set k && not (nat_eq l k)

-- the first of the refusals that a link tells of: the measurement takes orders; two are out
abbrev pub first_refusal : Bool → Bool → Option HandFault
first_refusal true two = Some NotEnded
first_refusal false true = Some Busy
first_refusal false false = None

module _ {S : Type 0} where
  -- whether list l runs by the orders that were sent to a sampler that is out
  abbrev pub runs_of : AwayState S → ℕ → Bool
  runs_of a l = runs_by a.orders (runs_in a.sampler l) l

  -- it takes orders, and starts of these lists find places, with the stops of all lists that then
  -- run and an order to end
  pub record HasPlacesFor (a : AwayState S) (lists : ℕ → Bool) : Type 0 where
    pub takes_orders : a.ended ≡ false
    pub places : places_for (runs_of a) lists ≤ a.free

  -- a look: places that are known to be free stay known, and something may have come back
  pub record LooksAtOrders (a b : AwayState S) : Type 0 where
    pub rest : b ≡ record a { free = b.free; out = b.out; here = b.here }
    pub grows : a.free ≤ b.free

  -- an order was sent
  pub record SendsOrder (a b : AwayState S) (o : Order) : Type 0 where
    pub sampler : b.sampler ≡ a.sampler
    pub went : b.went ≡ a.went
    pub orders : b.orders ≡ a.orders ++ o ∷ []
    pub spent : a.free ≡ b.free + 1
    pub ended : b.ended ≡ is_end o
    pub out : b.out ≡ a.out
    pub here : b.here ≡ a.here

  -- the newest takes orders
  abbrev pub takes_orders : Option (AwayState S) → Bool
  takes_orders None = false
  takes_orders (Some a) = not a.ended

  -- the newest takes orders, and list l runs by those that were sent
  abbrev pub is_running : Option (AwayState S) → ℕ → Bool
  is_running None l = false
  is_running (Some a) l = not a.ended && runs_of a l

  -- the newest has places for starts of these lists
  abbrev pub CanStart : Option (AwayState S) → (ℕ → Bool) → Type 0
  CanStart None lists = ⊥
  CanStart (Some a) lists = HasPlacesFor a lists

  -- an order was sent to the newest
  abbrev pub SendsToNewest : Option (AwayState S) → Option (AwayState S) → Order → Type 0
  SendsToNewest (Some a) (Some b) o = SendsOrder a b o
  SendsToNewest _ _ o = ⊥

  -- a look at the orders of the newest
  abbrev pub LooksAtNewest : Option (AwayState S) → Option (AwayState S) → Type 0
  LooksAtNewest None None = Unit {0}
  LooksAtNewest (Some a) (Some b) = LooksAtOrders a b
  LooksAtNewest _ _ = ⊥

  -- whether it is out
  abbrev pub is_out : Option (AwayState S) → Bool
  is_out None = false
  is_out (Some a) = a.out

  -- whether it was recalled, and is here
  abbrev pub is_here : Option (AwayState S) → Bool
  is_here None = false
  is_here (Some a) = a.here

  -- the measurement ended with no order: its sampler was recalled, and is here
  abbrev pub EndsHere : AwayState S → AwayState S → Type 0
  EndsHere a b = b ≡ record a { ended = true; out = false; here = true }

  abbrev pub EndsUnordered : Option (AwayState S) → Option (AwayState S) → Type 0
  EndsUnordered (Some a) (Some b) = EndsHere a b
  EndsUnordered _ _ = ⊥

  -- the measurement ended: its sampler was recalled, or an order to end was sent
  pub record EndsNewest (a b : LinkState S) : Type 0 where
    pub rest : b ≡ record a { newer = b.newer }
    pub way : EndsUnordered a.newer b.newer ⊎ SendsToNewest a.newer b.newer order.End

  -- a sampler that was just handed out, with the task's end of its orders
  abbrev pub just_out : SamplerState S → TakeState → AwayState S
  just_out s went = record {
    sampler = s;
    went = went;
    orders = [];
    free = MAX_CONTROL_RING + 1;
    ended = false;
    out = true;
    here = false;
  }

  -- a line on which nothing was handed out
  abbrev pub just_linked : RingName → LinkState S
  just_linked ring =
      record { ring = ring; came = []; coming = []; older = None; newer = None }

  -- a sampler was handed out
  pub record HandsOut (a b : LinkState S) (s : SamplerState S) : Type 0 where
    pub went : TakeState
    pub no_order : went.received ≡ []
    pub newer : b.newer ≡ Some (just_out s went)
    pub older : b.older ≡ one_before a.older a.newer
    pub rest : b ≡ record a { older = b.older; newer = b.newer }

  -- why no sampler can be handed out: the measurement has not ended, or else two are out
  abbrev pub hand_refusal : LinkState S → Option HandFault
  hand_refusal l =
      first_refusal (takes_orders l.newer) (is_some l.older && is_some l.newer)

  -- what a hand-out answers if it is refused so; if it isn't, the task may be at the place, or
  -- there may be no memory
  abbrev pub AnswersHandOut :
      Option HandFault → Result Unit (HandFault × SamplerState S) → Type 0
  AnswersHandOut (Some fault) (Ok done) = ⊥
  AnswersHandOut (Some fault) (Err e) = e.0 ≡ fault
  AnswersHandOut None (Ok done) = Unit {0}
  AnswersHandOut None (Err e) = e.0 ≢ NotEnded

-- this came back of a sampler that was handed out: what is left of it, after deeds whose orders are
-- those that were sent, in their order, but for the last `left` of them
pub record CameBack {S E : Type 0} (send : SendGhosts S E) (ring : EndGhosts E) (a : AwayState S)
    (e : SamplerEndState E) (left : ℕ)
    : Type 0 where
  pub channel : e.channel ≡ a.sampler.channel
  pub plans : e.plans ≡ a.sampler.plans
  pub capacity : e.capacity ≡ send.capacity a.sampler.end
  pub same_ring : ring.ring e.end ≡ send.ring a.sampler.end
  pub deeds : List Deed
  pub rest : List Order
  pub obeyed : orders_in deeds ++ rest ≡ a.orders
  pub many : length rest ≡ left
  pub stands :
      (past : Past) → StandsAfter send ring a.sampler past
      → EndStandsAfter (joined ring e) (past_after past deeds)

module _ {S : Type 0} where
  -- of a sampler that was out this is left, which came next over the line
  pub record ComesNext (x y : LinkState S) (a : AwayState S) (left : LeftState) : Type 0 where
    pub out : a.out ≡ true
    pub came : y.came ≡ x.came ++ left ∷ []
    pub known : IsPrefix x.coming (left ∷ y.coming)

  -- nothing came over the line
  pub record NothingCame (x y : LinkState S) : Type 0 where
    pub came : y.came ≡ x.came
    pub coming : y.coming ≡ x.coming

  -- what is kept is where it was, and not here; nothing came, and nothing is known to come of it,
  -- unless it has to wait
  pub record StaysOut (x y : LinkState S) (waits : Bool) (a b : Option (AwayState S))
      : Type 0 where
    pub nothing : NothingCame x y
    pub not_here : is_here a ≡ false
    pub stays : is_out b ≡ is_out a
    pub no_more : waits ≡ false → is_out b ≡ true → x.coming ≡ []

  -- what came is that it was lost
  pub record IsLost (x y : LinkState S) (b : Option (AwayState S)) : Type 0 where
    pub not_out : is_out b ≡ false
    -- fixed by `came`
    pub left : LeftState
    pub lost : left.end ≡ None
    pub came : y.came ≡ x.came ++ left ∷ []
    pub known : IsPrefix x.coming (left ∷ y.coming)

module _ {S E : Type 0} (send : SendGhosts S E) where
  -- it was recalled, now or before, and finished: it was lost
  pub record IsLostHere (x y : LinkState S) (a b : Option (AwayState S)) : Type 0 where
    pub nothing : NothingCame x y
    pub not_out : is_out b ≡ false
    pub away : AwayState S
    pub was : a ≡ Some away
    pub lost : send.is_lost away.sampler.end

  -- of what was kept as `a` and is kept as `b` nothing is back, and it isn't here; where it has to
  -- wait for another one, nothing came
  pub record NoneIsBack (x y : LinkState S) (waits : Bool) (a b : Option (AwayState S))
      : Type 0 where
    pub looked : LooksAtNewest a b
    pub not_here : is_here b ≡ false
    pub way :
        StaysOut x y waits a b ⊎ (((waits ≡ false) × IsLost x y b) ⊎ IsLostHere x y a b)

module _ {S E : Type 0} (send : SendGhosts S E) (ring : EndGhosts E) where
  -- this came next over the line
  pub record CameNext (x y : LinkState S) (a : AwayState S) (e : SamplerEndState E)
      : Type 0 where
    -- fixed by `next`
    pub left : LeftState
    pub is : left.end ≡ Some (seen_of ring e)
    pub next : ComesNext x y a left

  -- this is left of a sampler that was recalled, and finished here as it went
  pub record IsFinishedHere (x y : LinkState S) (a : AwayState S) (e : SamplerEndState E)
      : Type 0 where
    pub nothing : NothingCame x y
    pub of : IsLeftOf send ring a.sampler e

  -- this is back of a sampler that was handed out, with so many orders that were not carried out
  pub record IsBackBy (x y : LinkState S) (a : AwayState S) (e : SamplerEndState E) (left : ℕ)
      : Type 0 where
    pub came : CameBack send ring a e left
    pub way : CameNext x y a e ⊎ IsFinishedHere x y a e
