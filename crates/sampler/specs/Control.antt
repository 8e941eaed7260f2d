-- What becomes of the orders of a control ring.
use Rattle.std.specs.Prelude.{◌≡◌, ℕ, Bool, true, false, List, [], ◌∷◌, ◌++◌, flat_map}
use Rattle.std.specs.Option.{is_some}
use mathlib.Core.List.{IsPrefix}
use Rattle.channel_ring.specs.declared.ends.SendEnd.{Ghosts as SendGhosts}
use Rattle.channel_ring.specs.declared.ends.RingEnd.{Ghosts as EndGhosts}
use Rattle.channel_ring.specs.Orders.{TakeState}
use Rattle.channel_ring.specs.declared.order.Order.{Order}
use Rattle.channel_ring.specs.declared.order.Order.TheVariants as order
use Rattle.sampler.specs.History.{Start, Stop}
use Rattle.sampler.specs.Items.{marker_of}
use Rattle.sampler.specs.Past.{Past}
use Rattle.sampler.specs.Refusals.{running_at, start_refusal, stop_refusal}
use Rattle.sampler.specs.Standing.{GoesOn, StandsAfter}
use Rattle.sampler.specs.State.{SamplerState}
use Rattle.sampler.specs.Stays.{HasNoRoomFor, OnlyLooked}
use Rattle.sampler.specs.declared.polled.Polled.{Polled}
use Rattle.sampler.specs.declared.polled.Polled.TheVariants.{Done, Nothing, Refused, Waiting}

-- what an order that is carried out is to a sampler: a start or a stop is one event more, and a
-- start leaves its end of the ring as it was; an order to end is for who holds the sampler, which
-- stays as it was
abbrev pub CarriesOut :
    {S E : Type 0} → SendGhosts S E → EndGhosts E → SamplerState S → SamplerState S → Order → Type 0
CarriesOut send ring s t (order.Start l) = GoesOn send ring s t (Start l) × (t.end ≡ s.end)
CarriesOut send ring s t (order.Stop l) = GoesOn send ring s t (Stop l)
CarriesOut send ring s t order.End = t ≡ s

-- whether an order is refused, whatever room there is: a start if the list isn't of the channel
-- or runs, a stop if it isn't or doesn't; an order to end never is
abbrev pub is_refused : Past → Order → Bool
is_refused past (order.Start l) = is_some (start_refusal (running_at past l))
is_refused past (order.Stop l) = is_some (stop_refusal (running_at past l))
is_refused past order.End = false

-- the order that was taken off
abbrev pub answered : Polled → List Order
answered Nothing = []
answered (Done o) = o ∷ []
answered (Refused o) = o ∷ []
answered (Waiting o) = []

-- a sampler whose channel has this past refuses the order, or it doesn't
abbrev pub Refuses :
    {S E : Type 0} → SendGhosts S E → EndGhosts E → SamplerState S → Order → Bool → Type 0
Refuses send ring s o refused =
    (past : Past) → StandsAfter send ring s past → is_refused past o ≡ refused

-- no order is known, and none was: the sampler is as it was
pub record IsIdle {S : Type 0} (s t : SamplerState S) (a b : TakeState) : Type 0 where
  pub sampler : t ≡ s
  pub was_none : a.known ≡ []
  pub none : b.known ≡ []

-- the first order was taken off, and none of the others is forgotten
pub record IsTakenOff (a b : TakeState) (o : Order) : Type 0 where
  pub taken : b.received ≡ a.received ++ o ∷ []
  pub first : IsPrefix a.known (o ∷ b.known)

-- an order was carried out
pub record IsDone {S E : Type 0} (send : SendGhosts S E) (ring : EndGhosts E)
    (s t : SamplerState S) (a b : TakeState) (o : Order)
    : Type 0 where
  pub off : IsTakenOff a b o
  pub not_refused : Refuses send ring s o false
  pub carried_out : CarriesOut send ring s t o

-- an order was refused: the sampler is as it was
pub record IsRefused {S E : Type 0} (send : SendGhosts S E) (ring : EndGhosts E)
    (s t : SamplerState S) (a b : TakeState) (o : Order)
    : Type 0 where
  pub off : IsTakenOff a b o
  pub refused : Refuses send ring s o true
  pub stays : t ≡ s

-- the marker of a stop of list l found no room: the order stays at the front, and of the sampler
-- only more units may be known to be free
pub record Waits {S E : Type 0} (send : SendGhosts S E) (ring : EndGhosts E)
    (s t : SamplerState S) (a b : TakeState) (l : ℕ)
    : Type 0 where
  pub front : IsPrefix (order.Stop l ∷ []) b.known
  pub grows : IsPrefix a.known b.known
  pub not_refused : Refuses send ring s (order.Stop l) false
  pub no_room : HasNoRoomFor send ring s.end (marker_of s.channel l)
  pub looked : OnlyLooked send ring s t

-- what a look at the control ring came to
abbrev pub Polls :
    {S E : Type 0} → SendGhosts S E → EndGhosts E → SamplerState S → SamplerState S
    → TakeState → TakeState → Polled → Type 0
Polls send ring s t a b Nothing = IsIdle s t a b
Polls send ring s t a b (Done o) = IsDone send ring s t a b o
Polls send ring s t a b (Refused o) = IsRefused send ring s t a b o
Polls send ring s t a b (Waiting (order.Stop l)) = Waits send ring s t a b l
Polls send ring s t a b (Waiting _) = ⊥

-- looks at a ring of orders, one behind another, with these answers, if nothing else takes from
-- it
abbrev pub ArePolled : TakeState → List Polled → TakeState → Type 0
ArePolled a [] b = b.received ≡ a.received
ArePolled a (p ∷ polls) b =
    (next : TakeState) × (next.received ≡ a.received ++ answered p) × ArePolled next polls b

-- if nothing else took from a ring of orders, those that were answered and those that are left
-- are, in order, those that were sent
abbrev pub OrdersAreAnsweredInOrder : Type 0
OrdersAreAnsweredInOrder =
    (a b : TakeState) (polls : List Polled) (left sent : List Order)
    → a.received ≡ [] → ArePolled a polls b → b.received ++ left ≡ sent
    → flat_map answered polls ++ left ≡ sent
