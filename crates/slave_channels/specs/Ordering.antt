-- Orders of one command about many DAQ lists of an event channel.
use Rattle.std.specs.Prelude.{◌≡◌, ℕ, zero, suc, ◌+◌, ◌≤◌, Bool, ◌&&◌, not, nat_lt}
use Rattle.std.specs.Prelude.{if◌then◌else◌, List, [], ◌∷◌, ◌++◌, length, Option, Some, None}
use Rattle.xcp_base.specs.declared.limits.TheConstants.{MAX_TAKEN}
use Rattle.frame_ring.specs.declared.frame_send.FrameSend.{FrameSend}
use Rattle.slave_outbox.specs.Deeds.{Deed, Started, Stopped}
use Rattle.slave_outbox.specs.Intakes.{StandsAfter}
use Rattle.tasks.specs.Links.{AwayState}
use Rattle.channel_ring.specs.declared.order.Order.{Order}
use Rattle.channel_ring.specs.declared.order.Order.TheVariants.{Start, Stop}
use Rattle.slave_channels.specs.Channels.{ChannelState, ShareState}

-- one, if it is so
abbrev pub one_if : {X : Type 0} → Bool → X → List X
one_if b x = if b then x ∷ [] else []

-- the starts of those of the lists below n that are in a set, oldest first; and as deeds, newest
-- first
abbrev pub starts_sent : (ℕ → Bool) → ℕ → List Order
starts_sent set zero = []
starts_sent set (suc n) = starts_sent set n ++ one_if (set n) (Start n)

abbrev pub starts_noted : (ℕ → Bool) → ℕ → List Deed
starts_noted set zero = []
starts_noted set (suc n) = one_if (set n) (Started n) ++ starts_noted set n

-- the same of stops
abbrev pub stops_sent : (ℕ → Bool) → ℕ → List Order
stops_sent set zero = []
stops_sent set (suc n) = stops_sent set n ++ one_if (set n) (Stop n)

abbrev pub stops_noted : (ℕ → Bool) → ℕ → List Deed
stops_noted set zero = []
stops_noted set (suc n) = one_if (set n) (Stopped n) ++ stops_noted set n

-- those of a set that are not below n
abbrev pub from_on : ℕ → (ℕ → Bool) → ℕ → Bool
from_on n set k = set k && not (nat_lt k n)

-- these orders were sent to the newest, behind those before
abbrev pub SendsAll :
    Option (AwayState FrameSend) → Option (AwayState FrameSend) → List Order → Type 0
SendsAll None None os = os ≡ []
SendsAll (Some a) (Some b) os =
    (b.sampler ≡ a.sampler) × (b.orders ≡ a.orders ++ os) × (b.ended ≡ a.ended)
SendsAll _ _ os = ⊥

-- whatever the intake of the newest part stood after, it stands after that and these deeds, the
-- newest first
abbrev pub GoesOnBy : Option ShareState → Option ShareState → List Deed → Type 0
GoesOnBy None None ds = ds ≡ []
GoesOnBy (Some s) (Some t) ds =
    (t.number ≡ s.number)
    × ((deeds : List Deed) → length deeds + length ds ≤ MAX_TAKEN
    → StandsAfter s.intake deeds → StandsAfter t.intake (ds ++ deeds))
    × (t.opened ≡ s.opened)
GoesOnBy _ _ ds = ⊥

-- these orders went to the task, and the intake was told of them
pub record OrdersAll (a b : ChannelState) (os : List Order) (ds : List Deed) : Type 0 where
  pub sends : SendsAll a.link.newer b.link.newer os
  pub link : b.link ≡ record a.link { newer = b.link.newer }
  pub older : b.older ≡ a.older
  pub newer : GoesOnBy a.newer b.newer ds
