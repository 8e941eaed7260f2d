-- The slave's side of an event channel: the measurements whose samplers are out, and those that
-- came back.
use Rattle.std.specs.Prelude.{◌≡◌, ◌≢◌, ◌⊎◌, ◌&&◌, ◌||◌, ◌/◌, ℕ, Bool, List, [], All}
use Rattle.std.specs.Prelude.{Option, Some, None, Result, Ok, Err, false, nat_le, nat_lt}
use Rattle.std.specs.Option.{is_some}
use mathlib.Core.List.{IsPrefix}
use Rattle.copy_plan.specs.Config.{IsPlan}
use Rattle.channel_ring.specs.Ends.{RingName}
use Rattle.frame_ring.specs.contracts.frame_send.FrameSendSendEnd.TheImpl.{ghosts as send}
use Rattle.frame_ring.specs.contracts.frame_left.FrameLeftRingEnd.TheImpl.{ghosts as ring}
use Rattle.frame_ring.specs.declared.frame_send.FrameSend.{FrameSend}
use Rattle.frame_ring.specs.declared.frame_left.FrameLeft.{FrameLeft}
use Rattle.frame_ring.specs.Ends.{TakeState}
use Rattle.sampler.specs.History.{Opening}
use Rattle.sampler.specs.Past.{Past, first_past}
use Rattle.sampler.specs.Standing.{EndStandsAfter, StandsAfter as SamplerStandsAfter}
use Rattle.sampler.specs.State.{SamplerEndState, SamplerState}
use Rattle.transmitter.specs.Items.{samples}
use Rattle.daq_engine.specs.Order.{items_of}
use Rattle.daq_engine.specs.Overload.{HasMarks}
use Rattle.daq_engine.specs.declared.report.ListReport.{ListReport}
use Rattle.slave_outbox.specs.Accounts.{HasPlans, IsLineOf}
use Rattle.slave_outbox.specs.Deeds.{Deed, taken}
use Rattle.slave_outbox.specs.Ends.{left_state}
use Rattle.slave_outbox.specs.Intakes.{GoesOn, IntakeState, StandsAfter}
use Rattle.daq_store.specs.Standing.{StoreState}
use Rattle.daq_engine.specs.Openings.{IsOpeningOf}
use Rattle.slave_outbox.specs.declared.step.Step.{Step}
use Rattle.slave_outbox.specs.declared.step.Step.TheVariants.{Nothing}
use Rattle.slave_outbox.specs.Outboxes.{OutboxState}
use Rattle.slave_outbox.specs.Taking.{TakesItem}
use Rattle.hand_over.specs.Newest.{one_before}
use Rattle.tasks.specs.Links.{AwayState, CameBack, CameNext, HandsOut, LinkState, NothingCame}
use Rattle.tasks.specs.Links.{SendsToNewest, just_linked}
use Rattle.tasks.specs.declared.fault.HandFault.{HandFault}
use Rattle.tasks.specs.declared.fault.HandFault.TheVariants.{Memory, NotEnded}
use Rattle.channel_ring.specs.declared.order.Order.{Order}

-- what an event channel's part of a measurement was opened with: the store as it was then, the
-- event channel, and the capacity of its ring, in bytes
pub record OpenedState : Type 0 where
  pub store : StoreState
  pub channel : ℕ
  pub capacity : ℕ

-- the opening is that of the store and the event channel
abbrev pub IsOpeningBy : OpenedState → Opening → Type 0
IsOpeningBy o opening = IsOpeningOf o.store o.channel opening

-- an event channel's part of a measurement: the measurement's number, what the part was opened
-- with, and the intake of its ring
pub record ShareState : Type 0 where
  pub number : ℕ
  pub opened : OpenedState
  pub intake : IntakeState

-- the number of a part, if it is there
abbrev pub number_of : Option ShareState → Option ℕ
number_of None = None
number_of (Some p) = Some p.number

-- the link to the task, and the parts of the two measurements whose samplers may be out: the one
-- before the last, and the last
pub record ChannelState : Type 0 where
  pub link : LinkState FrameSend
  pub older : Option ShareState
  pub newer : Option ShareState

-- an event channel with no measurement, on a line with this name
abbrev pub no_measurement : RingName → ChannelState
no_measurement ring = record { link = just_linked ring; older = None; newer = None }

-- a part is kept, of one measurement or the other
abbrev pub keeps_part : ChannelState → Bool
keeps_part ch = is_some ch.older || is_some ch.newer

-- it is of a measurement with a number from `from` to below `to`
abbrev pub is_within : ℕ → ℕ → Option ShareState → Bool
is_within from to None = false
is_within from to (Some p) = nat_le from p.number && nat_lt p.number to

-- a part of such a measurement is kept
abbrev pub keeps_within : ℕ → ℕ → ChannelState → Bool
keeps_within from to ch = is_within from to ch.older || is_within from to ch.newer

-- two are: there is no room for one more
abbrev pub keeps_two : ChannelState → Bool
keeps_two ch = is_some ch.older && is_some ch.newer

-- such a part once what is left of its sampler is back
pub record FinishedState : Type 0 where
  pub number : ℕ
  pub opened : OpenedState
  pub end : SamplerEndState FrameLeft
  pub intake : IntakeState

-- two intakes of one ring; whatever the one stands after, the other does too
pub record Follows (a b : IntakeState) : Type 0 where
  pub ring : b.end.ring ≡ a.end.ring
  pub stands : (deeds : List Deed) → StandsAfter a deeds → StandsAfter b deeds

-- the sampler came to this past, from the opening of what its part was opened with: whatever its
-- intake stands after, what it took is the first of the items that were sent, and the samples
-- among these are marked exactly behind drops
pub record IsPastOf (f : FinishedState) (past : Past) : Type 0 where
  pub stands : EndStandsAfter (left_state f.end) past
  pub opens : IsOpeningBy f.opened past.opening
  pub capacity : f.end.capacity ≡ f.opened.capacity / 8
  pub plans : HasPlans past
  pub front :
      (deeds : List Deed) → StandsAfter f.intake deeds → IsPrefix (taken deeds) (items_of past)
  pub marks :
      (deeds : List Deed) → StandsAfter f.intake deeds → HasMarks past (samples (taken deeds))

-- there is such a past
abbrev pub IsFinished : FinishedState → Type 0
IsFinished f = (past : Past) × IsPastOf f past

-- the line of list l in the account, whichever past the sampler came to: due = written + dropped
-- + left
abbrev pub HasLine : FinishedState → ℕ → ListReport → Type 0
HasLine f l line =
    (past : Past) (deeds : List Deed) → IsPastOf f past → StandsAfter f.intake deeds
    → IsLineOf past deeds l line

-- the sampler that went out stood after nothing, from the opening of what the part was opened
-- with; the intake is of its ring, which has that capacity, in blocks of eight bytes
pub record IsShareOf (sampler : SamplerState FrameSend) (s : ShareState) : Type 0 where
  pub one_ring : s.intake.end.ring ≡ send.ring sampler.end
  pub capacity : send.capacity sampler.end ≡ s.opened.capacity / 8
  pub opening : Opening
  pub opens : IsOpeningBy s.opened opening
  pub plans : All IsPlan opening.plans
  pub stands : SamplerStandsAfter send ring sampler (first_past opening)

-- a sampler is out exactly if a part of a measurement is kept, and it is that one's
abbrev pub Fits : Option (AwayState FrameSend) → Option ShareState → Type 0
Fits None None = Unit {0}
Fits (Some a) (Some s) = IsShareOf a.sampler s
Fits _ _ = ⊥

-- what is left of a sampler that the task never fetched: it stands after nothing
pub record IsUnused (x y : LinkState FrameSend) (e : SamplerEndState FrameLeft) : Type 0 where
  pub nothing : NothingCame x y
  -- fixed by `stands`
  pub opening : Opening
  pub stands : EndStandsAfter (left_state e) (first_past opening)

-- what is left of the sampler of this part is back, while the link went from x to y: it came next
-- over the line with the task, or the task never fetched it
pub record IsBack (x y : LinkState FrameSend) (a : AwayState FrameSend) (s : ShareState)
    (f : FinishedState)
    : Type 0 where
  pub number : f.number ≡ s.number
  pub opened : f.opened ≡ s.opened
  pub follows : Follows s.intake f.intake
  -- fixed by `same`
  pub end : SamplerEndState FrameLeft
  -- any: how many orders were not carried out
  pub left : ℕ
  pub same : left_state f.end ≡ left_state end
  pub came : CameBack send ring a end left
  pub way : CameNext send ring x y a end ⊎ IsUnused x y end

abbrev pub IsBackOf :
    LinkState FrameSend → LinkState FrameSend → Option (AwayState FrameSend) → Option ShareState
    → FinishedState → Type 0
IsBackOf x y (Some a) (Some s) f = IsBack x y a s f
IsBackOf x y _ _ f = ⊥

-- the sampler of event channel c over the send end of a new ring of so many bytes, with this take
-- end: it stands after nothing, from the opening of the store, whose plans are plans; and nothing
-- was sent or taken
pub record IsPartAt (s : StoreState) (c cap : ℕ) (sampler : SamplerState FrameSend)
    (end : TakeState) (opening : Opening)
    : Type 0 where
  pub of_store : IsOpeningOf s c opening
  pub plans : All IsPlan opening.plans
  pub channel : sampler.channel ≡ c
  pub stands : SamplerStandsAfter send ring sampler (first_past opening)
  pub capacity : send.capacity sampler.end ≡ cap / 8
  pub segments : sampler.segments ≡ s.profile.segments
  pub nothing_sent : send.sent sampler.end ≡ []
  pub one_ring : end.ring ≡ send.ring sampler.end
  pub nothing_taken : end.received ≡ []

-- a part of a measurement was opened over a store: its sampler went out, opened as the store has
-- the event channel; nothing was ordered of its lists, and nothing was taken; and no part before it
-- was forgotten
pub record Opens (a b : ChannelState) (s : StoreState) (c cap number : ℕ) : Type 0 where
  pub sampler : SamplerState FrameSend
  pub share : ShareState
  pub opening : Opening
  pub opened : IsPartAt s c cap sampler share.intake.end opening
  pub handed : HandsOut a.link b.link sampler
  pub newer : b.newer ≡ Some share
  pub number_is : share.number ≡ number
  pub opened_is : share.opened ≡ record { store = s; channel = c; capacity = cap }
  pub stands : StandsAfter share.intake []
  pub older : b.older ≡ one_before a.older a.newer
  pub room : (a.older ≡ None) ⊎ (a.newer ≡ None)

-- what an opening answers if the hand-out of its sampler is refused so. Before that, and behind it,
-- there may be no memory; and if it isn't refused so, the task may be at the place
abbrev pub AnswersOpen : Option HandFault → Result Unit HandFault → Type 0
AnswersOpen (Some fault) (Ok done) = ⊥
AnswersOpen (Some fault) (Err other) = (other ≡ fault) ⊎ (other ≡ Memory)
AnswersOpen None (Ok done) = Unit {0}
AnswersOpen None (Err other) = other ≢ NotEnded

-- the newest part goes on with this deed
abbrev pub NewestGoesOn : Option ShareState → Option ShareState → Deed → Type 0
NewestGoesOn (Some s) (Some t) deed =
    (t.number ≡ s.number) × GoesOn s.intake t.intake deed × (t.opened ≡ s.opened)
NewestGoesOn _ _ deed = ⊥

-- the part is of measurement m, and it goes on with this deed
pub record PartGoesOn (m : ℕ) (deed : Deed) (before after : Option ShareState) : Type 0 where
  pub share : ShareState
  pub next : ShareState
  pub before_is : before ≡ Some share
  pub after_is : after ≡ Some next
  pub number : share.number ≡ m
  pub number_stays : next.number ≡ m
  pub opened : next.opened ≡ share.opened
  pub goes_on : GoesOn share.intake next.intake deed

-- the part of measurement m goes on with this deed, and the rest is as it was
pub record GoesOnThere (m : ℕ) (deed : Deed) (a b : ChannelState) : Type 0 where
  pub link : b.link ≡ a.link
  pub parts :
      ((b.older ≡ a.older) × PartGoesOn m deed a.newer b.newer)
      ⊎ ((b.newer ≡ a.newer) × PartGoesOn m deed a.older b.older)

-- an order went to the task, and the intake was told of it
pub record Orders (a b : ChannelState) (o : Order) (deed : Deed) : Type 0 where
  pub sends : SendsToNewest a.link.newer b.link.newer o
  pub link : b.link ≡ record a.link { newer = b.link.newer }
  pub older : b.older ≡ a.older
  pub newer : NewestGoesOn a.newer b.newer deed

-- what became of the next item of the ring of a part at event channel c; if there is no part,
-- nothing changes
abbrev pub TakesOf :
    ℕ → Option ShareState → Option ShareState → OutboxState → OutboxState → Step → Type 0
TakesOf c None None o p step = (step ≡ Nothing) × (p ≡ o)
TakesOf c (Some s) (Some t) o p step =
    (t.number ≡ s.number) × TakesItem s.intake t.intake o p s.number c step
    × (t.opened ≡ s.opened)
TakesOf c _ _ o p step = ⊥
