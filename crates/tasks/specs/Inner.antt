-- What no public clause cites: what a task and the slave's side of it know of their line.
use Rattle.std.specs.Prelude.{◌≡◌, ℕ, ◌⊎◌, true, false, if◌then◌else◌, List, [], ◌∷◌, ◌++◌}
use Rattle.std.specs.Prelude.{length, Option, Some, None, Result, Ok, IfOk, IsErr}
use mathlib.Core.List.{IsPrefix}
use Rattle.channel_ring.specs.declared.ends.SendEnd.{Ghosts as SendGhosts}
use Rattle.channel_ring.specs.declared.ends.RingEnd.{Ghosts as EndGhosts}
use Rattle.sampler.specs.State.{SamplerEndState}
use Rattle.channel_ring.specs.Orders.{TakeState}
use Rattle.channel_ring.specs.declared.order.Order.{Order}
use Rattle.hand_over.specs.Lines.{LenderState}
use Rattle.tasks.specs.Links.{AwayState, CameBack, ComesNext, LinkState, NothingCame}
use Rattle.tasks.specs.Tasks.{HeldState, Obeys, RestsHeld, TaskState}
use Rattle.tasks.specs.Ways.{HasCome, IsLeftOf, LeavesBy, left_of}
use Rattle.tasks.specs.declared.lost.Lost.{Lost}

module _ {S E : Type 0} (send : SendGhosts S E) (ring : EndGhosts E) where
  -- what is held came from the sampler that was fetched last, of which nothing was given back
  pub record HoldsOne (fetched : List (HeldState S))
      (gave : List (Result (SamplerEndState E) Lost × TakeState)) (h : HeldState S)
      : Type 0 where
    pub before : List (HeldState S)
    pub went : HeldState S
    pub last : fetched ≡ before ++ went ∷ []
    pub many : length before ≡ length gave
    pub come : HasCome send ring went.sampler went.orders h.sampler h.orders

  -- if nothing is held, something was given back of each that was fetched
  abbrev pub HoldsLast :
      List (HeldState S) → List (Result (SamplerEndState E) Lost × TakeState)
      → Option (HeldState S) → Type 0
  HoldsLast fetched gave None = length fetched ≡ length gave
  HoldsLast fetched gave (Some h) = HoldsOne fetched gave h

  -- what is held carried out this order, or has none that it could carry out
  abbrev pub ObeysHeldAs :
      Option (HeldState S) → Option (HeldState S) → Option Order → Type 0
  ObeysHeldAs (Some h) (Some k) (Some o) =
      Obeys send ring h.sampler k.sampler h.orders k.orders o
  ObeysHeldAs a b None = RestsHeld send ring a b
  ObeysHeldAs _ _ _ = ⊥

  pub record ObeysAs (a b : TaskState S) (answer : Option Order) : Type 0 where
    pub came : b.came ≡ a.came
    pub gave : b.gave ≡ a.gave
    pub held : ObeysHeldAs a.held b.held answer

-- a sampler that is out, as it went
abbrev pub out_of : {S : Type 0} → Option (AwayState S) → List (HeldState S)
out_of None = []
out_of (Some a) = if a.out then record { sampler = a.sampler; orders = a.went } ∷ [] else []

-- what is kept of a sampler is as it was, but for where it is
abbrev pub Leaves : {S : Type 0} → Option (AwayState S) → Option (AwayState S) → Type 0
Leaves None None = Unit {0}
Leaves (Some a) (Some b) = b ≡ record a { out = b.out; here = b.here }
Leaves _ _ = ⊥

-- the newest was recalled, and is here
pub record RecallsNewest {S : Type 0} (a b : LinkState S) : Type 0 where
  pub before : AwayState S
  pub was : a.newer ≡ Some before
  pub rest : b ≡ record a { newer = Some (record before { out = false; here = true }) }

module _ {S E : Type 0} (send : SendGhosts S E) (ring : EndGhosts E) where
  -- this is left of a sampler that was recalled, and finished as it went
  pub record IsFinishedOf (a : AwayState S) (left : Result (SamplerEndState E) Lost × TakeState)
      : Type 0 where
    pub here : a.here ≡ true
    pub not_out : a.out ≡ false
    pub orders : left.1 ≡ a.went
    pub end : IfOk left.0 (IsLeftOf send ring a.sampler)
    pub lost : IsErr left.0 → send.is_lost a.sampler.end

  -- this is left of a sampler that was out, and came over the line next
  pub record IsNextOver
      (x y : LenderState (HeldState S) (Result (SamplerEndState E) Lost × TakeState))
      (a : AwayState S) (left : Result (SamplerEndState E) Lost × TakeState)
      : Type 0 where
    pub out : a.out ≡ true
    pub by_rule : LeavesBy send ring a.sampler a.went left
    pub came : y.came ≡ x.came ++ left ∷ []
    pub known : IsPrefix x.coming (left ∷ y.coming)

  -- it came so or so
  abbrev pub ComesOf :
      LenderState (HeldState S) (Result (SamplerEndState E) Lost × TakeState)
      → LenderState (HeldState S) (Result (SamplerEndState E) Lost × TakeState)
      → AwayState S → Result (SamplerEndState E) Lost × TakeState → Type 0
  ComesOf x y a left = (IsFinishedOf a left × (y ≡ x)) ⊎ IsNextOver x y a left

  -- the same, as the link shows it
  pub record Comes (x y : LinkState S) (a : AwayState S)
      (left : Result (SamplerEndState E) Lost × TakeState)
      : Type 0 where
    pub by_rule : LeavesBy send ring a.sampler a.went left
    pub way : ComesNext x y a (left_of ring left) ⊎ (IsFinishedOf a left × NothingCame x y)

  -- the end of a sampler that was taken out of what is left of it, and how many orders are left
  pub record IsTakenOf (a : AwayState S) (left : Result (SamplerEndState E) Lost × TakeState)
      (back : SamplerEndState E × ℕ)
      : Type 0 where
    pub end : left.0 ≡ Ok back.0
    pub came : CameBack send ring a back.0 back.1
