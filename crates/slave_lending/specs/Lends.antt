-- How tasks are handed out, and come back.
use Rattle.std.specs.Prelude.{◌≡◌, ℕ, ◌≤◌, Bool, List, [], length, map, set, slice_get}
use Rattle.std.specs.Prelude.{false, true, Some, None}
use Rattle.frame_ring.specs.declared.frame_send.FrameSend.{FrameSend}
use Rattle.frame_writer.specs.Reading.{ReaderStandsAfter}
use Rattle.session.specs.declared.profile.Profile.{Profile}
use Rattle.slave_channels.specs.Accounts.{AccountState}
use Rattle.slave.specs.Closing.{Closes as ClosesWith}
use Rattle.slave.specs.Standing.{SlaveStandsAfter}
use Rattle.slave.specs.declared.complete.Complete.{Complete}
use Rattle.slave_channels.specs.Calls.{rings_of}
use Rattle.slave_channels.specs.Each.{IsEach}
use Rattle.tasks.specs.Tasks.{TaskEndState, TaskState, just_begun}
use Rattle.slave_lending.specs.Slots.{AreEndsOf, MayComeBack, SlotState, away, is_away, with_task}
use Rattle.slave_lending.specs.States.{LendingSlaveState}
use Rattle.slave_lending.specs.declared.lend_fault.LendFault.{LendFault}
use Rattle.slave_lending.specs.declared.lend_fault.LendFault.TheVariants as fault

-- why a task is not handed out
abbrev pub RefusesAt : SlotState → LendFault → Type 0
RefusesAt s fault.NoChannel = ⊥
RefusesAt s fault.Lent = s.here ≡ None
RefusesAt s fault.Memory = (task : TaskState FrameSend) × (s ≡ with_task task)

-- none of these tasks is away
abbrev pub NoneAwayOf : List SlotState → Type 0
NoneAwayOf slots =
    (c : ℕ) (at : SlotState) → slice_get slots c ≡ Some at → is_away at ≡ false

-- the task of event channel c was handed out
pub record LendsTask (a b : LendingSlaveState) (c : ℕ) (task : TaskState FrameSend) : Type 0 where
  pub here : slice_get a.tasks c ≡ Some (with_task task)
  pub away : b.tasks ≡ set a.tasks c (away task.ring)
  pub slave : b.slave ≡ a.slave
  pub stream : b.stream ≡ a.stream

-- why the task of event channel c is not handed out
abbrev pub RefusesTask : LendingSlaveState → ℕ → LendFault → Type 0
RefusesTask s c fault.NoChannel = length s.tasks ≤ c
RefusesTask s c refusal =
    (at : SlotState) × (slice_get s.tasks c ≡ Some at) × RefusesAt at refusal

-- what is left of tasks that were finished was taken back
pub record Collects (a b : LendingSlaveState) : Type 0 where
  pub tasks : IsEach (λ c. MayComeBack) a.tasks b.tasks
  pub slave : b.slave ≡ a.slave
  pub stream : b.stream ≡ a.stream

-- no task is away; and some task is
abbrev pub NoneAway : LendingSlaveState → Type 0
NoneAway s = NoneAwayOf s.tasks

abbrev pub SomeAway : LendingSlaveState → Type 0
SomeAway s =
    (c : ℕ) × ((at : SlotState) × (slice_get s.tasks c ≡ Some at) × (is_away at ≡ true))

-- a slave was opened with this profile: no act stands in its log, no byte came, and all its tasks
-- are here, each on its event channel's line
pub record IsOpenedWith (d : Profile) (s : LendingSlaveState) : Type 0 where
  pub profile : s.slave.session.profile ≡ d
  pub stands : SlaveStandsAfter d s.slave []
  pub fresh : ReaderStandsAfter s.stream [] []
  pub is_open : s.stream.closed ≡ false
  pub max_cto : s.stream.max_cto ≡ d.max_cto
  pub many : length s.tasks ≡ length d.events.items
  pub all_here :
      s.tasks
      ≡ map (λ ring. with_task (just_begun ring)) (rings_of s.slave.channels)

-- the slave was closed with what is left of its tasks
pub record Closes (a : LendingSlaveState) (account : AccountState) (whole : Bool)
    (complete : Complete)
    : Type 0 where
  -- fixed by `are`
  pub ends : List (TaskEndState FrameSend)
  pub are : AreEndsOf a.tasks ends
  pub closes : ClosesWith a.slave ends account whole complete
