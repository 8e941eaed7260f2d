-- What no public clause cites: parts of what a slave does with a packet.
use Rattle.std.specs.Prelude.{◌≡◌, ◌≢◌, ℕ, ◌+◌, ◌-◌, ◌*◌, ◌%◌, ◌^◌, ◌<◌, ◌≤◌, ◌⊎◌}
use Rattle.std.specs.Prelude.{◌&&◌, not}
use Rattle.std.specs.Prelude.{Bool, true, false, List, [], ◌∷◌, count_by}
use Rattle.std.specs.Prelude.{take as first}
use Rattle.std.specs.Prelude.{◌++◌, ◌↔◌, length, slice_get, if◌then◌else◌, Option, Some, None}
use Rattle.std.specs.List.{list_all}
use Rattle.xcp_base.specs.declared.err_code.ErrCode.TheVariants.{CmdBusy, MemoryOverflow, Sequence}
use Rattle.daq_store.specs.Shape.{is_list}
use Rattle.xcp_base.specs.Lists.{has_list}
use Rattle.xcp_base.specs.declared.err_code.ErrCode.{ErrCode}
use Rattle.xcp_base.specs.declared.limits.TheConstants.{MAX_LISTS, MAX_TAKEN}
use Rattle.frame_ring.specs.declared.frame_send.FrameSend.{FrameSend}
use Rattle.session.specs.Past.{Given, Past}
use Rattle.session.specs.Profiles.{lists_of}
use Rattle.session.specs.Standing.{SessionStandsAfter, SessionState}
use Rattle.session.specs.Exchanges.{Exchange}
use Rattle.session.specs.Starts.{is_on, shows_on, starts}
use Rattle.session.specs.declared.profile.Profile.{Profile}
use Rattle.sampler.specs.State.{SamplerState}
use Rattle.channel_ring.specs.Orders.{TakeState}
use Rattle.xcp_base.specs.Counts.{one_if}
use Rattle.tasks.specs.Links.{LinkState, just_out}
use Rattle.tasks.specs.Tasks.{TaskEndState}
use mathlib.Core.List.{IsPrefix}
use Rattle.std.specs.Option.{is_some}
use Rattle.slave_outbox.specs.Deeds.{Deed, Unsent}
use Rattle.slave_outbox.specs.declared.step.Step.{Step}
use Rattle.slave_outbox.specs.declared.step.Step.TheVariants.{Full, Marked, Nothing, Skipped}
use Rattle.slave_outbox.specs.declared.step.Step.TheVariants.{Wrote}
use Rattle.slave_outbox.specs.Outboxes.{LaysOut, OutboxState, origins_in, together}
use Rattle.slave_outbox.specs.declared.origin.Origin.{Origin}
use Rattle.slave_outbox.specs.declared.origin.Origin.TheVariants as origin
use Rattle.slave_outbox.specs.Intakes.{StandsAfter as IntakeStandsAfter}
use Rattle.slave_channels.specs.Accounts.{AccountStandsAfter, AccountState, Entry, end_of}
use Rattle.slave_channels.specs.Accounts.{more_unsent}
use Rattle.slave_channels.specs.declared.sums.TheConstants.{LAST}
use Rattle.slave_channels.specs.Channels.{ChannelState, FinishedState, GoesOnThere, IsPastOf}
use Rattle.slave_channels.specs.Channels.{number_of}
use Rattle.slave_channels.specs.Ordering.{starts_noted}
use Rattle.slave_channels.specs.Calls.{CanStartAll, Ends, HasFull, HasNoPlaces, HasSome}
use Rattle.slave_channels.specs.Calls.{HaveRoom, KeepsNoneOf, KeepsNoneWithin, KeepsOneWithin}
use Rattle.slave_channels.specs.Calls.{Looks, OpenedAndEnded, OpensAt}
use Rattle.slave_channels.specs.Calls.{StartsAt, StopsAll}
use Rattle.slave_channels.specs.Each.{IsEach, IsOnlyAt}
use Rattle.slave.specs.Finishing.{GaveAll}
use Rattle.slave.specs.Hearing.{IsStartRefusal, KeepsLines, MayOpen, IsIdleRefusal, NoneComes}
use Rattle.slave.specs.Hearing.{is_spent}
use Rattle.slave.specs.Taking.{HasRunning, IsEmptyAt, IsHeldUp, LetsGoAt, LooksAt, LooksTimes}
use Rattle.slave.specs.Taking.{known_of, newest_at, older_at}
use Rattle.slave.specs.declared.round.Round.{Round}
use Rattle.slave.specs.declared.round.Round.TheVariants.{Empty, HeldUp, Took}
use Rattle.slave.specs.Log.{Act, Heard}
use Rattle.slave.specs.Log.{deeds_of, has_part, is_late, is_newest, is_return, late_in, opened}
use Rattle.slave.specs.Log.{past_of, unsent_by, waits}
use Rattle.slave.specs.Openings.{capacities_of}
use Rattle.slave.specs.Pages.{page_over}
use Rattle.slave.specs.Plans.{IsAsOpened, plan_of}
use Rattle.slave.specs.Rings.{is_too_long}
use Rattle.slave.specs.Standing.{HasEnded, JustOpened, NoneRuns, PartsStandAfter, SlaveState}
use Rattle.slave.specs.Standing.{StandsBy}
pub use Rattle.slave.specs.Standing.{Busy, Idle}
use Rattle.slave.specs.Standing.{StartsWell}
use Rattle.slave.specs.declared.complete.Complete.{Complete}
use Rattle.slave.specs.declared.limits.TheConstants.{PER_ACT}

-- of these lists, those that are ready and whose modes name event channel c: by the session's past,
-- and as its store shows them; a number that is not zero has one
pub record IsSetOn (s : SessionState) (lists c set : ℕ) : Type 0 where
  pub is :
      (past : Past) → SessionStandsAfter s past → (l : ℕ) → l < MAX_LISTS
      → has_list set l ≡ (has_list lists l && is_on s.profile past c l)
  pub shown :
      (l : ℕ) → l < MAX_LISTS → has_list set l ≡ (has_list lists l && shows_on s.store c l)
  pub some : set ≢ 0 → HasSome set

-- so at each place of the sets
abbrev pub AreSets : SessionState → ℕ → List ℕ → Type 0
AreSets s lists sets = (c set : ℕ) → slice_get sets c ≡ Some set → IsSetOn s lists c set

-- those of the lists whose modes name event channel c were started there, beside what was done so
-- far
abbrev pub started : Profile → List Act → ℕ → ℕ → ℕ → List Deed
started d log lists c m =
    if is_newest m log
    then
    starts_noted (λ l. has_list lists l && is_on d (past_of d log) c l) MAX_LISTS
    ++ deeds_of d m c log
    else deeds_of d m c log

-- a reply is laid out, if there is one
abbrev pub LaysReply : OutboxState → OutboxState → Option (List ℕ) → Type 0
LaysReply a b None = b ≡ a
LaysReply a b (Some packet) = LaysOut a b (together origin.Reply (packet ∷ []))

-- where lists run, one of these doesn't stand as it did where the newest measurement was opened
pub record HasOther (d : Profile) (log : List Act) (lists : ℕ) : Type 0 where
  pub list : ℕ
  pub below : list < MAX_LISTS
  pub one : has_list lists list ≡ true
  pub other : ¬ IsAsOpened d log list
  pub some : ¬ NoneRuns (past_of d log)

-- where no list runs, the lists are started in a measurement that was just opened
abbrev pub IsOfOne : Profile → List Act → ℕ → Type 0
IsOfOne d log lists = HasSome lists → NoneRuns (past_of d log) → JustOpened d log

-- the lists that are there stand as they did where the newest measurement was opened
abbrev pub AreAsOpened : Profile → List Act → ℕ → Type 0
AreAsOpened d log lists =
    (l : ℕ) → l < MAX_LISTS → has_list lists l ≡ true → is_list (past_of d log).calls l ≡ true
    → IsAsOpened d log l

-- at the event channels of these lists the newest measurement has a part
abbrev pub HasParts : Profile → List Act → ℕ → Type 0
HasParts d log lists =
    (c l : ℕ) → c < length d.events.items → l < MAX_LISTS → has_list lists l ≡ true
    → is_on d (past_of d log) c l ≡ true → has_part (opened log - 1) c log ≡ true

-- a task has no place for the orders, or there is no memory
abbrev pub IsPlaceRefusal : ErrCode → Type 0
IsPlaceRefusal code = (code ≡ CmdBusy) ⊎ (code ≡ MemoryOverflow)

-- a slave, once it counted so much more
abbrev pub counting : SlaveState → ℕ → SlaveState
counting s n = record s { acts = s.acts + n }

-- what an act counts as
abbrev pub acts_of : Step → ℕ
acts_of Nothing = 0
acts_of Full = 0
acts_of (Marked l) = PER_ACT
acts_of (Skipped l) = PER_ACT
acts_of (Wrote l len) = PER_ACT

-- the newest measurement's parts are as they were, and the next look begins there too
pub record KeepsNewest (a b : SlaveState) : Type 0 where
  pub newest : (c : ℕ) → newest_at b c ≡ newest_at a c
  pub next : b.next ≡ a.next

-- and so are those of the measurement before
abbrev pub KeepsOlder : SlaveState → SlaveState → Type 0
KeepsOlder a b = (c : ℕ) → older_at b c ≡ older_at a c

-- a round ended at event channel `end`
abbrev pub EndsAt : SlaveState → ℕ → Round → Type 0
EndsAt b end HeldUp = b.next ≡ end
EndsAt b end Empty = length b.channels ≤ end
EndsAt b end Took = length b.channels ≤ end

-- the orders of the tasks were looked at
pub record LooksAtAll (a b : SlaveState) : Type 0 where
  pub channels : IsEach (λ c. Looks) a.channels b.channels
  pub rest : b ≡ record a { channels = b.channels }

-- at an event channel starts of the lists find no places
pub record WantsPlaces (s : SessionState) (lists : ℕ) (now : List ChannelState) : Type 0 where
  pub sets : List ℕ
  pub are : AreSets s lists sets
  pub none : HasNoPlaces sets now

-- at each event channel of which a list is ready there is room for one more part
pub record HasRoom (s : SlaveState) : Type 0 where
  pub sets : List ℕ
  pub all : ℕ
  pub are_all : (l : ℕ) → l < MAX_LISTS → has_list all l ≡ true
  pub are : AreSets s.session all sets
  pub as_many : length sets ≡ length s.channels
  pub have : HaveRoom sets s.channels

-- at one there is none
pub record WantsRoom (s : SlaveState) : Type 0 where
  pub sets : List ℕ
  pub all : ℕ
  pub are : AreSets s.session all sets
  pub none : HasFull sets s.channels

-- the last measurement with a part at event channel c isn't the newest
pub record IsOfBefore (s : SlaveState) (c : ℕ) : Type 0 where
  pub number : ℕ
  pub kept :
      (ch : ChannelState) → slice_get s.channels c ≡ Some ch → number_of ch.newer ≡ Some number
  pub other : (number + 1) % 18446744073709551616 ≢ s.number

-- it has ended: no list runs, or it isn't the newest
abbrev pub IsOver : SlaveState → ℕ → Type 0
IsOver s c = Idle s.session ⊎ IsOfBefore s c

-- at each event channel of which a list is ready a sampler was just handed out
abbrev pub AreJustOut : SlaveState → Type 0
AreJustOut s =
    (c l : ℕ) (ch : ChannelState)
    → l < MAX_LISTS → shows_on s.session.store c l ≡ true → slice_get s.channels c ≡ Some ch
    → (sampler : SamplerState FrameSend) × (went : TakeState)
    × (ch.link.newer ≡ Some (just_out sampler went))

-- of one of these lists a sample is longer than its ring
pub record HasTooLong (d : Profile) (past : Past) (lists : ℕ) : Type 0 where
  pub list : ℕ
  pub below : list < MAX_LISTS
  pub one : has_list lists list ≡ true
  pub long : is_too_long d past list ≡ true

abbrev pub OneIsTooLong : SessionState → ℕ → Type 0
OneIsTooLong s lists = (past : Past) → SessionStandsAfter s past → HasTooLong s.profile past lists

-- of none is it
abbrev pub AreInRings : Profile → Past → ℕ → Type 0
AreInRings d past lists =
    (l : ℕ) → l < MAX_LISTS → has_list lists l ≡ true → is_too_long d past l ≡ false

abbrev pub NoneIsTooLong : SessionState → ℕ → Type 0
NoneIsTooLong s lists = (past : Past) → SessionStandsAfter s past → AreInRings s.profile past lists

-- at each event channel starts of the lists find places
pub record HasPlaces (s : SessionState) (lists : ℕ) (now : List ChannelState) : Type 0 where
  pub sets : List ℕ
  pub as_many : length sets ≡ length now
  pub are : AreSets s lists sets
  pub can : CanStartAll sets now

-- so starts are refused while lists run
abbrev pub IsRefusedAt : SessionState → List ChannelState → ℕ → ErrCode → Type 0
IsRefusedAt s now lists code =
    ((code ≡ CmdBusy) × WantsPlaces s lists now)
    ⊎ ((code ≡ MemoryOverflow) × OneIsTooLong s lists × HasPlaces s lists now)

-- beside the event channels, one measurement more was opened
pub record OpensBeside (a b : SlaveState) : Type 0 where
  pub session : b.session ≡ a.session
  pub outbox : b.outbox ≡ record a.outbox { page = page_over a.session.store }
  pub plan : b.plan ≡ plan_of a.session.store
  pub lists : a.session.store.profile ≡ lists_of a.session.profile
  pub account : b.account ≡ a.account
  pub number : b.number ≡ (a.number + 1) % 18446744073709551616
  pub counted : b.acts ≡ a.acts
  pub next : b.next ≡ a.next

-- whatever the parts of the one stand after, short of 2^57 acts, those of the other stand after
-- that and these acts; and each event channel is on its line with its task still
abbrev pub PartsGoBy : SlaveState → SlaveState → List Act → Type 0
PartsGoBy a b acts =
    KeepsLines a b
    × ((log : List Act) → 32 * (length acts + length log) ≤ MAX_TAKEN
    → PartsStandAfter a.session.profile a log
    → PartsStandAfter a.session.profile b (acts ++ log))

-- the lists were started
abbrev pub SlaveStarted : Profile → SlaveState → List Act → ℕ → Type 0
SlaveStarted d s log lists = StandsBy (started d log lists) (late_in d log) d s log

-- the lists that ran before and don't now were stopped where they run; and where none runs now,
-- each measurement ended
pub record Settles (a b : List ChannelState) (before now : ℕ) : Type 0 where
  pub lists : ℕ
  pub are : (l : ℕ) → l < MAX_LISTS → has_list lists l ≡ (has_list before l && not (has_list now l))
  pub ends : Bool
  pub yes : ends ≡ true → (l : ℕ) → l < MAX_LISTS → has_list now l ≡ false
  pub always : ((l : ℕ) → l < MAX_LISTS → has_list now l ≡ false) → ends ≡ true
  pub stopped : List ChannelState
  pub stops : IsEach (λ c. StopsAll lists) a stopped
  pub goes_on : ends ≡ false → b ≡ stopped
  pub ends_all : ends ≡ true → IsEach (λ c. Ends) stopped b

-- starts of the lists were ordered
pub record StartsLists (a b : SlaveState) (lists : ℕ) : Type 0 where
  pub looked : SlaveState
  pub looks : LooksAtAll a looked
  pub sets : List ℕ
  pub are : AreSets a.session lists sets
  pub as_many : length sets ≡ length looked.channels
  pub can : CanStartAll sets looked.channels
  pub starts : IsEach (StartsAt sets) looked.channels b.channels
  pub rest : b ≡ record looked { channels = b.channels }

-- what came back was taken back, at all event channels, and no more than so many parts
pub record Collects (most : ℕ) (a b : SlaveState) : Type 0 where
  pub session : b.session ≡ a.session
  pub outbox : b.outbox ≡ a.outbox
  pub as_many : length b.channels ≡ length a.channels
  pub number : b.number ≡ a.number
  pub counted : b.acts ≡ a.acts
  pub next : b.next ≡ a.next
  pub acts : List Act
  pub are : list_all is_return acts ≡ true
  pub few : length acts ≤ most
  pub goes : PartsGoBy a b acts

-- lists were started, in a measurement that may have been opened
pub record Prepares (most : ℕ) (a b : SlaveState) (lists : ℕ) : Type 0 where
  pub opening : List Act
  pub may_open : MayOpen most opening
  pub for_some : (opening ≡ []) ⊎ HasSome lists
  pub lines : KeepsLines a b
  pub in_one :
      (log : List Act) → 32 * (1 + length opening + length log) ≤ MAX_TAKEN
      → PartsStandAfter a.session.profile a log
      → IsOfOne a.session.profile (opening ++ log) lists
  pub as_opened :
      (log : List Act) → 32 * (1 + length opening + length log) ≤ MAX_TAKEN
      → PartsStandAfter a.session.profile a log
      → AreAsOpened a.session.profile (opening ++ log) lists
  pub has_parts :
      (log : List Act) → 32 * (1 + length opening + length log) ≤ MAX_TAKEN
      → PartsStandAfter a.session.profile a log
      → HasParts a.session.profile (opening ++ log) lists
  pub in_rings :
      (log : List Act) → 32 * (1 + length opening + length log) ≤ MAX_TAKEN
      → PartsStandAfter a.session.profile a log
      → AreInRings a.session.profile (past_of a.session.profile (opening ++ log)) lists
  pub goes :
      (log : List Act) → 32 * (1 + length opening + length log) ≤ MAX_TAKEN
      → PartsStandAfter a.session.profile a log
      → SlaveStarted a.session.profile b (opening ++ log) lists

-- lists were not started; a measurement may have been opened, and ended at once
pub record StartsInVain (most : ℕ) (a b : SlaveState) (lists : ℕ) (code : ErrCode) : Type 0 where
  pub is : IsStartRefusal code
  pub some : HasSome lists
  pub opening : List Act
  pub may_open : MayOpen most opening
  pub sequence :
      (log : List Act) → 32 * (1 + length opening + length log) ≤ MAX_TAKEN
      → PartsStandAfter a.session.profile a log
      → (code ≡ Sequence) ↔ HasOther a.session.profile (opening ++ log) lists
  pub places :
      (past : Past) → SessionStandsAfter a.session past → ¬ NoneRuns past → code ≢ Sequence
      → IsRefusedAt a.session b.channels lists code
  pub when_idle :
      (past : Past) → SessionStandsAfter a.session past → NoneRuns past
      → IsIdleRefusal a.session.profile past a.number b code opening
  pub unopened :
      (past : Past) → SessionStandsAfter a.session past → NoneRuns past
      → HasTooLong a.session.profile past lists → opened opening ≡ 0
  pub goes : PartsGoBy a b opening

-- a packet was answered whose lists were started
pub record Answers (a b : SlaveState) (packet : List ℕ) (given : Given) : Type 0 where
  pub exchange : Exchange
  pub packet_is : exchange.packet ≡ packet
  pub given_is : exchange.given ≡ given
  pub lines : KeepsLines a b
  pub goes :
      (log : List Act) (lists : ℕ) → 32 * (1 + length log) ≤ MAX_TAKEN
      → ((l : ℕ) → l < MAX_LISTS
      → has_list lists l ≡ starts a.session.profile (past_of a.session.profile log) packet l)
      → StartsWell a.session.profile log packet
      → SlaveStarted a.session.profile a log lists
      → PartsStandAfter a.session.profile b (Heard exchange ∷ log)

-- a part that came back was added to an account, if there is one
abbrev pub Notes : AccountState → AccountState → Option FinishedState → Type 0
Notes a b None = b ≡ a
Notes a b (Some f) =
    (entry : Entry) → entry.number ≡ f.number → entry.number + 1 < 2 ^ 64
    → IsPastOf f entry.past → IntakeStandsAfter f.intake entry.deeds
    → (entries : List Entry) (unsent : ℕ → ℕ → ℕ) → AccountStandsAfter a entries unsent
    → AccountStandsAfter b (entry ∷ entries) unsent

-- a measurement was opened at all event channels of which a list is ready
pub record OpensAll (a b : SlaveState) : Type 0 where
  pub caps : List ℕ
  pub caps_are : caps ≡ capacities_of a.session.profile
  pub sets : List ℕ
  pub all : ℕ
  pub are_all : (l : ℕ) → l < MAX_LISTS → has_list all l ≡ true
  pub are : AreSets a.session all sets
  pub as_many_caps : length caps ≡ length a.channels
  pub as_many_sets : length sets ≡ length a.channels
  pub channels : IsEach (OpensAt a.session.store a.number caps sets) a.channels b.channels
  pub rest : OpensBeside a b

-- the same, where it ended at once
pub record OpensInVain (a b : SlaveState) : Type 0 where
  pub caps : List ℕ
  pub caps_are : caps ≡ capacities_of a.session.profile
  pub sets : List ℕ
  pub as_many_caps : length caps ≡ length a.channels
  pub as_many_sets : length sets ≡ length a.channels
  pub channels :
      IsEach (OpenedAndEnded a.session.store a.number caps sets)
      a.channels b.channels
  pub rest : OpensBeside a b

-- a measurement was not opened, for want of memory, or in vain
abbrev pub OpensNone : SlaveState → SlaveState → ErrCode → Type 0
OpensNone a b code = ((code ≡ MemoryOverflow) × (b ≡ a)) ⊎ (IsPlaceRefusal code × OpensInVain a b)

-- one look at the newest ring of event channel c: nothing is known there then, or the slave is
-- spent; or it is held up; or an item was taken. The other event channels are as they were
pub record LooksOnce (a b : SlaveState) (c : ℕ) (step : Step) : Type 0 where
  pub nothing : step ≡ Nothing → (is_spent b ≡ true) ⊎ IsEmptyAt b c
  pub full : step ≡ Full → IsHeldUp b c
  pub others : (k : ℕ) → k ≢ c → slice_get b.channels k ≡ slice_get a.channels k
  pub counted : b.acts ≡ a.acts + acts_of step
  pub spent : is_spent a ≡ true → b ≡ a
  pub turn : is_spent a ≡ false → step ≢ Full → LooksAt 1 a b c
  pub held : step ≡ Full → LooksAt 0 a b c

-- one look at the ring that event channel c has in the measurement before the newest, unless the
-- slave is spent; the other event channels' rings are as they were
pub record LooksOlder (a b : SlaveState) (c : ℕ) (step : Step) : Type 0 where
  pub nothing : step ≡ Nothing → (is_spent b ≡ true) ⊎ (known_of (older_at b c) ≡ [])
  pub full : step ≡ Full → HasRunning (older_at b c)
  pub turn : step ≢ Full → (is_spent b ≡ true) ⊎ LooksTimes 1 (older_at a c) (older_at b c)
  pub others : (k : ℕ) → k ≢ c → older_at b k ≡ older_at a k

-- what that ring holds is let go, there alone
pub record LetsGoThere (a b : SlaveState) (c : ℕ) : Type 0 where
  pub there : (is_spent b ≡ true) ⊎ LetsGoAt a b c
  pub others : (k : ℕ) → k ≢ c → older_at b k ≡ older_at a k

-- the newest rings from event channel `begin` on, below `end`, were looked at once, and of the
-- others nothing was taken
pub record LooksFrom (begin end : ℕ) (a b : SlaveState) : Type 0 where
  pub before : (c : ℕ) → c < begin → LooksAt 0 a b c
  pub there : (c : ℕ) → begin ≤ c → c < end → LooksAt 1 a b c
  pub behind : (c : ℕ) → end ≤ c → LooksAt 0 a b c

-- in a round from `begin` on each ring was looked at once, up to one that is held up; or until
-- the slave was spent, and of one that was spent before nothing is taken
pub record GoesRound (a b : SlaveState) (begin : ℕ) (round : Round) : Type 0 where
  pub end : ℕ
  pub reach : begin ≤ end
  pub looks : LooksFrom begin end a b
  pub ends : EndsAt b end round ⊎ (is_spent b ≡ true)
  pub spent : is_spent a ≡ true → (c : ℕ) → LooksAt 0 a b c

-- how a round ended that began at event channel `begin`, and where the next one begins
abbrev pub EndsRound : SlaveState → SlaveState → ℕ → Round → Type 0
EndsRound a b begin HeldUp = IsHeldUp b b.next
EndsRound a b begin Empty =
    (b.next ≡ 0) × ((is_spent b ≡ true) ⊎ ((c : ℕ) → begin ≤ c → IsEmptyAt b c))
EndsRound a b begin Took = (b.next ≡ 0) × (a.acts + PER_ACT ≤ b.acts)

-- of the replies and samples that wait, as a whole or in part, the first n aren't sent: so much was
-- done with each ring, and so much is late
abbrev pub left_deeds : Profile → List Act → ℕ → ℕ → ℕ → List Deed
left_deeds d log n c m = unsent_by m c (first n (origins_in (waits d log))) ++ deeds_of d m c log

abbrev pub left_late : Profile → List Act → ℕ → ℕ → ℕ → ℕ
left_late d log n m l =
    late_in d log m l + count_by (is_late log m l) (first n (origins_in (waits d log)))

-- the part of measurement m at event channel c was told that a sample of list l isn't sent
pub record TellsPart (m c l : ℕ) (a b : SlaveState) : Type 0 where
  pub channels : IsOnlyAt (GoesOnThere m (Unsent l)) c a.channels b.channels
  pub rest : b ≡ record a { channels = b.channels }

-- that part isn't kept, and the account was told
pub record TellsAccount (m c l : ℕ) (a b : SlaveState) : Type 0 where
  pub none : KeepsNoneOf m c a.channels
  pub account :
      (entries : List Entry) (unsent : ℕ → ℕ → ℕ) → m < end_of entries
      → AccountStandsAfter a.account entries unsent
      → AccountStandsAfter b.account entries (more_unsent m l 1 unsent)
  pub rest : b ≡ record a { account = b.account }

-- what is from here isn't sent: of a sample its part or the account was told, if there may be
-- such a list
abbrev pub LeavesOne : Origin → SlaveState → SlaveState → Type 0
LeavesOne origin.Reply a b = b ≡ a
LeavesOne (origin.Sample m c l) a b =
    TellsPart m c l a b ⊎ (TellsAccount m c l a b ⊎ ((MAX_LISTS ≤ l) × (b ≡ a)))

-- the first n of what waits were left
pub record LeavesFirst (n : ℕ) (a b : SlaveState) : Type 0 where
  pub lines : KeepsLines a b
  pub outbox : b.outbox ≡ a.outbox
  pub session : b.session ≡ a.session
  pub counted : b.acts ≡ a.acts
  pub next : b.next ≡ a.next
  pub leaves :
      (log : List Act) → 32 * (1 + length log) ≤ MAX_TAKEN
      → PartsStandAfter a.session.profile a log
      → StandsBy (left_deeds a.session.profile log n) (left_late a.session.profile log n)
      a.session.profile b log
  pub ended :
      (log : List Act) → 32 * (1 + length log) ≤ MAX_TAKEN
      → PartsStandAfter a.session.profile a log
      → HasEnded b (past_of a.session.profile log)

-- how many of a link's two samplers are kept
abbrev pub kept_of : LinkState FrameSend → ℕ
kept_of l = one_if (is_some l.older) + one_if (is_some l.newer)

-- all that came or is known to come over the one came or is known to come over the other
abbrev pub Grows : LinkState FrameSend → LinkState FrameSend → Type 0
Grows l m = IsPrefix (l.came ++ l.coming) (m.came ++ m.coming)

-- what came back at event channel c was taken back, if something did: then one sampler less is
-- kept; else some list runs, or nothing is to come
pub record TakesOne (c : ℕ) (some : Bool) (a b : SlaveState) : Type 0 where
  pub others : (k : ℕ) → k ≢ c → slice_get b.channels k ≡ slice_get a.channels k
  pub grows :
      (x y : ChannelState) → slice_get a.channels c ≡ Some x
      → slice_get b.channels c ≡ Some y → Grows x.link y.link
  pub yes :
      some ≡ true → (x y : ChannelState) → slice_get a.channels c ≡ Some x
      → slice_get b.channels c ≡ Some y → kept_of y.link + 1 ≡ kept_of x.link
  pub no :
      some ≡ false → (y : ChannelState) → slice_get b.channels c ≡ Some y
      → Busy a.session ⊎ NoneComes y.link
  pub gave_all :
      some ≡ false → (y : ChannelState) → slice_get b.channels c ≡ Some y → GaveAll b y

-- all that came back there was taken back
pub record TakesAll (c : ℕ) (a b : SlaveState) : Type 0 where
  pub others : (k : ℕ) → k ≢ c → slice_get b.channels k ≡ slice_get a.channels k
  pub grows :
      (x y : ChannelState) → slice_get a.channels c ≡ Some x
      → slice_get b.channels c ≡ Some y → Grows x.link y.link
  pub rests :
      (y : ChannelState) → slice_get b.channels c ≡ Some y → Busy a.session ⊎ NoneComes y.link

-- all that came back was taken back, at each event channel, if no list runs
abbrev pub AllCame : SlaveState → Type 0
AllCame s =
    (c : ℕ) (ch : ChannelState) → slice_get s.channels c ≡ Some ch
    → Busy s.session ⊎ NoneComes ch.link

-- so at the first n event channels
abbrev pub CameBelow : ℕ → SlaveState → Type 0
CameBelow n s =
    (c : ℕ) (ch : ChannelState) → c < n → slice_get s.channels c ≡ Some ch
    → Busy s.session ⊎ NoneComes ch.link

-- all that the task of event channel c gave back came, if no list runs
pub record Gathers (c : ℕ) (end : TaskEndState FrameSend) (a b : SlaveState) : Type 0 where
  pub others : (k : ℕ) → k ≢ c → slice_get b.channels k ≡ slice_get a.channels k
  pub all :
      (y : ChannelState) → slice_get b.channels c ≡ Some y
      → Busy a.session ⊎ (y.link.came ≡ end.gave)

-- so at the first n event channels; the others are as they were
pub record GathersFirst (n : ℕ) (ends : List (TaskEndState FrameSend)) (a b : SlaveState)
    : Type 0 where
  pub others : (k : ℕ) → n ≤ k → slice_get b.channels k ≡ slice_get a.channels k
  pub all :
      (c : ℕ) (end : TaskEndState FrameSend) (y : ChannelState) → c < n
      → slice_get ends c ≡ Some end → slice_get b.channels c ≡ Some y
      → Busy a.session ⊎ (y.link.came ≡ end.gave)

-- it says whether no part is kept of the measurements from the one to below the other
pub record HasAll (from to : ℕ) (now : List ChannelState) (has : Bool) : Type 0 where
  pub yes : has ≡ true → KeepsNoneWithin from to now
  pub no : has ≡ false → KeepsOneWithin from to now

-- so of each of the last four up to an end, and of all before
pub record HasComplete (end : ℕ) (now : List ChannelState) (complete : Complete) : Type 0 where
  pub many : length complete.last ≡ LAST
  pub last :
      (i : ℕ) (has : Bool) → slice_get complete.last i ≡ Some has
      → HasAll (end - LAST + i) (end - LAST + (i + 1)) now has
  pub older : HasAll 0 (end - LAST) now complete.older
