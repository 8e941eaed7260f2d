-- What the calls of one measurement do at each of its event channels.
use Rattle.std.specs.Prelude.{◌≡◌, ◌≢◌, ℕ, ◌<◌, ◌⊎◌, ◌&&◌, ◌++◌, true, false, List, []}
use Rattle.std.specs.Prelude.{Option, None, Some, Err, length, map}
use Rattle.std.specs.Prelude.{IfSome, IsNone, IsSome, slice_get}
use Rattle.xcp_base.specs.Lists.{has_list}
use Rattle.xcp_base.specs.declared.limits.TheConstants.{MAX_LISTS}
use Rattle.channel_ring.specs.Ends.{RingName}
use Rattle.frame_ring.specs.contracts.frame_send.FrameSendSendEnd.TheImpl.{ghosts as send}
use Rattle.frame_ring.specs.declared.frame_send.FrameSend.{FrameSend}
use Rattle.slave_outbox.specs.declared.step.Step.{Step}
use Rattle.daq_store.specs.Standing.{StoreState}
use Rattle.slave_outbox.specs.Outboxes.{OutboxState}
use Rattle.tasks.specs.Links.{CanStart, EndsNewest, LooksAtNewest, NoneIsBack, is_out, is_running}
use Rattle.tasks.specs.Links.{hand_refusal, takes_orders}
use Rattle.tasks.specs.Tasks.{TaskEndState, TaskState, just_begun}
use Rattle.tasks.specs.declared.fault.HandFault.{HandFault}
use Rattle.slave_channels.specs.Channels.{AnswersOpen, ChannelState, FinishedState, IsBackOf}
use Rattle.slave_channels.specs.Channels.{Opens, TakesOf}
use Rattle.slave_channels.specs.Channels.{keeps_part, keeps_two, keeps_within, no_measurement}
use Rattle.slave_channels.specs.Channels.{number_of}
use Rattle.slave_channels.specs.Ordering.{OrdersAll, starts_noted, starts_sent}
use Rattle.slave_channels.specs.Ordering.{stops_noted, stops_sent}

-- a list is one of these
abbrev pub HasSome : ℕ → Type 0
HasSome lists = (l : ℕ) × (l < MAX_LISTS) × (has_list lists l ≡ true)

-- the names of the lines of event channels with their tasks
abbrev pub rings_of : List ChannelState → List RingName
rings_of channels = map (λ (ch : ChannelState). ch.link.ring) channels

-- the line of event channel c with its task has this name
abbrev pub IsRingAt : ℕ → List ChannelState → RingName → Type 0
IsRingAt c channels ring =
    (ch : ChannelState) → slice_get channels c ≡ Some ch → ch.link.ring ≡ ring

-- so many event channels and their tasks are new, each on a line with its own
pub record AreNew (count : ℕ) (channels : List ChannelState) (tasks : List (TaskState FrameSend))
    : Type 0 where
  -- fixed by `channels_are`
  pub rings : List RingName
  pub many : length rings ≡ count
  pub channels_are : channels ≡ map no_measurement rings
  pub tasks_are : tasks ≡ map just_begun rings

-- the measurement that is there ended, if one is
pub record Ends (a b : ChannelState) : Type 0 where
  pub none : takes_orders a.link.newer ≡ false → b ≡ a
  pub ends : takes_orders a.link.newer ≡ true → EndsNewest a.link b.link
  pub parts : b ≡ record a { link = b.link }

-- a look at the orders of the newest
pub record Looks (a b : ChannelState) : Type 0 where
  pub newer : LooksAtNewest a.link.newer b.link.newer
  pub rest : b ≡ record a { link = record a.link { newer = b.link.newer } }

-- starts of the lists at each event channel find places, if they are any
abbrev pub CanStartAll : List ℕ → List ChannelState → Type 0
CanStartAll lists now =
    (c set : ℕ) (b : ChannelState)
    → slice_get lists c ≡ Some set → slice_get now c ≡ Some b → set ≢ 0
    → CanStart b.link.newer (has_list set)

-- at an event channel with some lists their starts find no places
pub record HasNoPlaces (lists : List ℕ) (now : List ChannelState) : Type 0 where
  pub channel : ℕ
  pub set : ℕ
  pub state : ChannelState
  pub lists_are : slice_get lists channel ≡ Some set
  pub some : set ≢ 0
  pub state_is : slice_get now channel ≡ Some state
  pub cannot : ¬ CanStart state.link.newer (has_list set)

-- at each event channel with some lists there is room for one more part
abbrev pub HaveRoom : List ℕ → List ChannelState → Type 0
HaveRoom lists now =
    (c set : ℕ) (ch : ChannelState)
    → slice_get lists c ≡ Some set → slice_get now c ≡ Some ch → set ≢ 0
    → keeps_two ch ≡ false

-- at an event channel with some lists there is none
pub record HasFull (lists : List ℕ) (now : List ChannelState) : Type 0 where
  pub channel : ℕ
  pub set : ℕ
  pub state : ChannelState
  pub lists_are : slice_get lists channel ≡ Some set
  pub some : HasSome set
  pub state_is : slice_get now channel ≡ Some state
  pub full : keeps_two state ≡ true

-- this is the number of the last measurement with a part at event channel c, if it is kept
abbrev pub IsNewestAt : ℕ → List ChannelState → Option ℕ → Type 0
IsNewestAt c now answer =
    (ch : ChannelState) → slice_get now c ≡ Some ch → answer ≡ number_of ch.newer

-- no part of a measurement is kept at any event channel; and one is
abbrev pub KeepsNone : List ChannelState → Type 0
KeepsNone now =
    (c : ℕ) (ch : ChannelState) → slice_get now c ≡ Some ch → keeps_part ch ≡ false

abbrev pub KeepsOne : List ChannelState → Type 0
KeepsOne now =
    (c : ℕ) × ((ch : ChannelState) × (slice_get now c ≡ Some ch) × (keeps_part ch ≡ true))

-- no part is kept of a measurement with a number from `from` to below `to`; and one is
abbrev pub KeepsNoneWithin : ℕ → ℕ → List ChannelState → Type 0
KeepsNoneWithin from to now =
    (c : ℕ) (ch : ChannelState) → slice_get now c ≡ Some ch → keeps_within from to ch ≡ false

abbrev pub KeepsOneWithin : ℕ → ℕ → List ChannelState → Type 0
KeepsOneWithin from to now =
    (c : ℕ)
    × ((ch : ChannelState) × (slice_get now c ≡ Some ch) × (keeps_within from to ch ≡ true))

-- no part of measurement m is kept at event channel c
abbrev pub KeepsNoneOf : ℕ → ℕ → List ChannelState → Type 0
KeepsNoneOf m c now =
    (ch : ChannelState) → slice_get now c ≡ Some ch
    → (number_of ch.newer ≢ Some m) × (number_of ch.older ≢ Some m)

-- the starts of these lists were ordered
abbrev pub Starts : ℕ → ChannelState → ChannelState → Type 0
Starts set a b =
    OrdersAll a b (starts_sent (has_list set) MAX_LISTS) (starts_noted (has_list set) MAX_LISTS)

-- the starts of the lists of event channel c were ordered there
abbrev pub StartsAt : List ℕ → ℕ → ChannelState → ChannelState → Type 0
StartsAt lists c a b = (set : ℕ) → slice_get lists c ≡ Some set → Starts set a b

-- the stops of those of the lists that run were ordered
abbrev pub StopsAll : ℕ → ChannelState → ChannelState → Type 0
StopsAll lists a b =
    OrdersAll a b
    (stops_sent (λ l. has_list lists l && is_running a.link.newer l) MAX_LISTS)
    (stops_noted (λ l. has_list lists l && is_running a.link.newer l) MAX_LISTS)

-- what became of the next item of the newest measurement's ring; the rest is as it was
pub record TakesFromNewer (c : ℕ) (o p : OutboxState) (step : Step) (a b : ChannelState)
    : Type 0 where
  pub takes : TakesOf c a.newer b.newer o p step
  pub rest : b ≡ record a { newer = b.newer }

-- the same of the measurement before it
pub record TakesFromOlder (c : ℕ) (o p : OutboxState) (step : Step) (a b : ChannelState)
    : Type 0 where
  pub takes : TakesOf c a.older b.older o p step
  pub rest : b ≡ record a { older = b.older }

-- a part of a measurement was opened, if there are lists of it: a number that is not zero has one
abbrev pub OpensIfAny : StoreState → ℕ → ℕ → ℕ → ℕ → ChannelState → ChannelState → Type 0
OpensIfAny store number c cap set a b =
    (set ≡ 0 → b ≡ a) × (set ≢ 0 → Opens a b store c cap number) × (set ≢ 0 → HasSome set)

module _ (store : StoreState) (number : ℕ) (caps lists : List ℕ) where
  -- so at event channel c, whose ring has caps[c] bytes and whose lists are lists[c]
  abbrev pub OpensAt : ℕ → ChannelState → ChannelState → Type 0
  OpensAt c a b =
      (cap set : ℕ) → slice_get caps c ≡ Some cap → slice_get lists c ≡ Some set
      → OpensIfAny store number c cap set a b

  -- nothing changed there; or it has lists of the measurement, which was opened and ended again
  abbrev pub OpenedAndEnded : ℕ → ChannelState → ChannelState → Type 0
  OpenedAndEnded c a b =
      (cap set : ℕ) → slice_get caps c ≡ Some cap → slice_get lists c ≡ Some set
      → (b ≡ a)
      ⊎ ((set ≢ 0) × ((m : ChannelState) × Opens a m store c cap number × Ends m b))

-- nothing that is out refuses a hand-out at those of the first n event channels that have lists
abbrev pub NoneRefuses : List ℕ → List ChannelState → ℕ → Type 0
NoneRefuses lists now n =
    (c set : ℕ) (state : ChannelState) → c < n → slice_get lists c ≡ Some set → set ≢ 0
    → slice_get now c ≡ Some state → hand_refusal state.link ≡ None

-- at an event channel with some lists the measurement was refused with this fault, and nothing that
-- is out refuses a hand-out before it
pub record HasRefused (lists : List ℕ) (now : List ChannelState) (fault : HandFault)
    : Type 0 where
  pub channel : ℕ
  pub set : ℕ
  pub state : ChannelState
  pub lists_are : slice_get lists channel ≡ Some set
  pub some : set ≢ 0
  pub state_is : slice_get now channel ≡ Some state
  pub answers : AnswersOpen (hand_refusal state.link) (Err fault)
  pub before : NoneRefuses lists now channel

-- what came back of the measurement before the last; the rest is as it was
pub record GivesBackOlder (answer : Option FinishedState) (a b : ChannelState) : Type 0 where
  pub back : IfSome answer (IsBackOf a.link b.link a.link.older a.older)
  pub some : IsSome answer → (b.link.older ≡ None) × (b.older ≡ None)
  pub none :
      IsNone answer
      → (b.older ≡ a.older) × NoneIsBack send a.link b.link false a.link.older b.link.older
  pub link :
      b.link
      ≡ record a.link { came = b.link.came; coming = b.link.coming; older = b.link.older }
  pub newer : b.newer ≡ a.newer

-- the same of the last
pub record GivesBackNewer (answer : Option FinishedState) (a b : ChannelState) : Type 0 where
  pub back : IfSome answer (IsBackOf a.link b.link a.link.newer a.newer)
  pub some : IsSome answer → (b.link.newer ≡ None) × (b.newer ≡ None)
  pub none :
      IsNone answer
      → (b.newer ≡ a.newer)
      × NoneIsBack send a.link b.link (is_out a.link.older) a.link.newer b.link.newer
  pub link :
      b.link
      ≡ record a.link { came = b.link.came; coming = b.link.coming; newer = b.link.newer }
  pub older : b.older ≡ a.older

-- all that the task of an event channel gave back was looked at: each of it is known to come
pub record IsBeside (end : TaskEndState FrameSend) (a b : ChannelState) : Type 0 where
  pub all : b.link.came ++ b.link.coming ≡ end.gave
  pub no_more :
      is_out a.link.older ≡ false → is_out a.link.newer ≡ false → b.link.coming ≡ []
  pub rest : b ≡ record a { link = record a.link { coming = b.link.coming } }
