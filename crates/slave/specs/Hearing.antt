-- What a slave does with a packet of its master.
use Rattle.std.specs.Prelude.{◌≡◌, ◌≢◌, ℕ, ◌+◌, ◌*◌, ◌<◌, ◌≤◌, ◌⊎◌, ◌&&◌, Bool, true, false}
use Rattle.std.specs.Prelude.{not, nat_le, List, [], ◌∷◌, ◌++◌, length, slice_get, Some, ◌↔◌}
use Rattle.std.specs.List.{list_all}
use Rattle.xcp_base.specs.declared.err_code.ErrCode.{ErrCode}
use Rattle.xcp_base.specs.declared.err_code.ErrCode.TheVariants.{CmdBusy, MemoryOverflow, Sequence}
use Rattle.xcp_base.specs.Lists.{has_list}
use Rattle.xcp_base.specs.declared.limits.TheConstants.{MAX_CHANNELS, MAX_LISTS}
use Rattle.session.specs.Exchanges.{Exchange}
use Rattle.session.specs.Past.{Given, Past}
use Rattle.session.specs.Starts.{is_on, starts}
use Rattle.session.specs.declared.profile.Profile.{Profile}
use Rattle.slave_outbox.specs.Outboxes.{has_room}
use Rattle.frame_ring.specs.declared.frame_send.FrameSend.{FrameSend}
use Rattle.tasks.specs.Links.{CanStart, LinkState, is_here, is_out}
use Rattle.slave_channels.specs.Channels.{ChannelState, keeps_two, number_of}
use Rattle.slave_channels.specs.Calls.{CanStartAll, rings_of}
use Rattle.slave.specs.Log.{Act, CameBack, Discarded, Heard, HungUp, Opened, Refused, Sent, Took}
use Rattle.slave.specs.Log.{opened, past_of}
use Rattle.slave.specs.Rings.{is_too_long}
use Rattle.slave.specs.Standing.{IsStart, NoneRuns, SlaveStandsAfter, SlaveState}
use Rattle.slave.specs.declared.limits.TheConstants.{MOST_ACTS}

-- a start was refused because a list doesn't stand as it did where the measurement was opened,
-- because a task has no place for the orders, or for want of memory
abbrev pub IsStartRefusal : ErrCode → Type 0
IsStartRefusal code = (code ≡ Sequence) ⊎ ((code ≡ CmdBusy) ⊎ (code ≡ MemoryOverflow))

-- what may be done before a start: what is left of samplers comes back, and a measurement is opened
abbrev pub is_before : Act → Bool
is_before (Heard x) = false
is_before (Refused packet code) = false
is_before (Opened at) = true
is_before (Took m c x) = false
is_before (CameBack m c past) = true
is_before (Sent n) = false
is_before HungUp = false
is_before Discarded = false

-- the most that is done before a start: two parts come back at each event channel, and a
-- measurement is opened
abbrev pub most_before : ℕ
most_before = 1 + 2 * MAX_CHANNELS

-- at most one measurement is opened, and no more is done than so many acts
pub record MayOpen (most : ℕ) (acts : List Act) : Type 0 where
  pub are : list_all is_before acts ≡ true
  pub one : opened acts ≤ 1
  pub few : length acts ≤ most

-- the packet was answered, or refused; and before that a measurement may have been opened
abbrev pub IsHearing : List ℕ → Given → Act → Type 0
IsHearing packet given act =
    ((x : Exchange) × (act ≡ Heard x) × (x.packet ≡ packet) × (x.given ≡ given))
    ⊎ ((code : ErrCode) × (act ≡ Refused packet code) × IsStartRefusal code)

-- at an event channel of lists that the packet starts, their starts find no places at the task,
-- with the stops of all lists that then run and an order to end
pub record FindsNoPlaces (d : Profile) (past : Past) (packet : List ℕ) (s : SlaveState)
    : Type 0 where
  pub channel : ℕ
  pub set : ℕ
  pub state : ChannelState
  pub are :
      (l : ℕ) → l < MAX_LISTS
      → has_list set l ≡ (starts d past packet l && is_on d past channel l)
  pub some : set ≢ 0
  pub state_is : slice_get s.channels channel ≡ Some state
  pub cannot : ¬ CanStart state.link.newer (has_list set)

-- at each event channel the starts of the lists that the packet starts find places at the task
pub record FindsPlaces (d : Profile) (past : Past) (packet : List ℕ) (s : SlaveState)
    : Type 0 where
  pub sets : List ℕ
  pub as_many : length sets ≡ length s.channels
  pub are :
      (c set l : ℕ) → slice_get sets c ≡ Some set → l < MAX_LISTS
      → has_list set l ≡ (starts d past packet l && is_on d past c l)
  pub can : CanStartAll sets s.channels

-- the packet would start a list of which a sample is longer than its ring
pub record StartsTooLong (d : Profile) (past : Past) (packet : List ℕ) : Type 0 where
  pub list : ℕ
  pub below : list < MAX_LISTS
  pub starts_it : starts d past packet list ≡ true
  pub long : is_too_long d past list ≡ true

-- no sampler that was recalled is here; and over the line with a task nothing is known to come, or
-- nothing is out that could
pub record NoneComes (link : LinkState FrameSend) : Type 0 where
  pub older_not_here : is_here link.older ≡ false
  pub newer_not_here : is_here link.newer ≡ false
  pub line :
      (link.coming ≡ []) ⊎ ((is_out link.older ≡ false) × (is_out link.newer ≡ false))

-- at an event channel of which a list is ready the parts of two measurements are kept
pub record HasNoRoom (d : Profile) (past : Past) (s : SlaveState) : Type 0 where
  pub channel : ℕ
  pub list : ℕ
  pub state : ChannelState
  pub below : list < MAX_LISTS
  pub ready : is_on d past channel list ≡ true
  pub state_is : slice_get s.channels channel ≡ Some state
  pub two : keeps_two state ≡ true

-- a start was refused where no list runs. No measurement was opened: then all that is known to have
-- come back was taken back, and it was refused with ERR_CMD_BUSY exactly if there is no room for
-- one more. Or one was, with this number, and ended at once: then there was room, since of two
-- parts that are kept one is its own; but memory ran out, or a task was at its place just then
pub record IsIdleRefusal (d : Profile) (past : Past) (number : ℕ) (s : SlaveState)
    (code : ErrCode) (opening : List Act)
    : Type 0 where
  pub all_came :
      opened opening ≡ 0 → (c : ℕ) (ch : ChannelState) → slice_get s.channels c ≡ Some ch
      → NoneComes ch.link
  pub unopened : opened opening ≡ 0 → (code ≡ CmdBusy) ↔ HasNoRoom d past s
  pub ended :
      opened opening ≢ 0 → (two : HasNoRoom d past s) → number_of two.state.newer ≡ Some number

-- each event channel of the one is on its line with its task in the other
abbrev pub KeepsLines : SlaveState → SlaveState → Type 0
KeepsLines a b = rings_of b.channels ≡ rings_of a.channels

-- it counted so much that it hears and takes nothing any more
abbrev pub is_spent : SlaveState → Bool
is_spent s = nat_le MOST_ACTS s.acts

-- it hears a packet: it isn't spent, and a reply finds room
abbrev pub may_hear : SlaveState → Bool
may_hear s = not (is_spent s) && has_room s.outbox

-- whatever the one stands after, the other stands after that and these acts; and each event
-- channel is on its line with its task still
abbrev pub GoesBy : SlaveState → SlaveState → List Act → Type 0
GoesBy a b acts =
    KeepsLines a b
    × ((log : List Act) → SlaveStandsAfter a.session.profile a log
    → SlaveStandsAfter a.session.profile b (acts ++ log))

-- a packet was heard; before that a measurement may have been opened, if it is a start; and while
-- lists run, a start that isn't refused with ERR_SEQUENCE is refused with ERR_CMD_BUSY, where its
-- orders find no places, else with ERR_MEMORY_OVERFLOW, where a sample is longer than its ring, or
-- not at all. While no list runs, ERR_CMD_BUSY comes before ERR_MEMORY_OVERFLOW: the state behind
-- the packet shows whether there was room; and no measurement is opened where a sample is too long
pub record Hears (a b : SlaveState) (packet : List ℕ) (given : Given) : Type 0 where
  pub act : Act
  pub opening : List Act
  pub is : IsHearing packet given act
  pub may_open : MayOpen most_before opening
  pub for_a_start :
      (log : List Act) → SlaveStandsAfter a.session.profile a log
      → (opening ≡ []) ⊎ IsStart a.session.profile (past_of a.session.profile log) packet
  pub places :
      (log : List Act) → SlaveStandsAfter a.session.profile a log
      → ¬ NoneRuns (past_of a.session.profile log)
      → (code : ErrCode) → act ≡ Refused packet code → code ≢ Sequence
      → ((code ≡ CmdBusy)
      × FindsNoPlaces a.session.profile (past_of a.session.profile log) packet b)
      ⊎ ((code ≡ MemoryOverflow)
      × StartsTooLong a.session.profile (past_of a.session.profile log) packet
      × FindsPlaces a.session.profile (past_of a.session.profile log) packet b)
  pub when_idle :
      (log : List Act) → SlaveStandsAfter a.session.profile a log
      → NoneRuns (past_of a.session.profile log)
      → (code : ErrCode) → act ≡ Refused packet code
      → IsIdleRefusal a.session.profile (past_of a.session.profile log) a.number b code opening
  pub too_long :
      (log : List Act) → SlaveStandsAfter a.session.profile a log
      → NoneRuns (past_of a.session.profile log)
      → (code : ErrCode) → act ≡ Refused packet code
      → StartsTooLong a.session.profile (past_of a.session.profile log) packet
      → opened opening ≡ 0
  pub goes : GoesBy a b (act ∷ opening)
