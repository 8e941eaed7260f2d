-- How a slave is closed, with the account of its session.
use Rattle.std.specs.Prelude.{◌≡◌, ◌⊎◌, ℕ, ◌<◌, ◌≤◌, Bool, List, length, slice_get}
use Rattle.std.specs.Prelude.{Option, Some, None}
use Rattle.xcp_base.specs.declared.limits.TheConstants.{MAX_LISTS}
use Rattle.daq_engine.specs.declared.report.ListReport.{ListReport}
use Rattle.c_slave.specs.declared.content.Content.{Content}
use Rattle.c_slave.specs.declared.content.Content.TheVariants as held
use Rattle.c_engine.specs.declared.status.Status.{Status}
use Rattle.c_engine.specs.declared.status.Status.TheVariants as status
use Rattle.slave_channels.specs.Accounts.{AccountStandsAfter, AccountState, Entry, IsTotalLine}
use Rattle.slave_channels.specs.Accounts.{end_of, sum_before}
use Rattle.slave.specs.declared.complete.Complete.{Complete}
use Rattle.slave_lending.specs.Lends.{Closes, Collects, NoneAway, SomeAway}
use Rattle.slave_lending.specs.States.{LendingSlaveState}
use Rattle.c_slave.specs.Measurements.{TellsEach}
use Rattle.c_slave.specs.declared.measurements_out.MeasurementsOut.{MeasurementsOut}

-- the room for the lines of an account, for whether the account is whole, and for the accounts of
-- the last measurements
pub record AccountRoom : Type 0 where
  pub lines : List ListReport
  pub whole : Bool
  pub each : MeasurementsOut

-- this line of list l is that of an account
abbrev pub IsLineIn : AccountState → ℕ → ListReport → Type 0
IsLineIn account l line =
    (entries : List Entry) (unsent : ℕ → ℕ → ℕ) → AccountStandsAfter account entries unsent
    → IsTotalLine entries (sum_before (end_of entries) unsent l) l line

-- the first n places have such lines of their lists; the others are as they were
pub record HasLines (is : ℕ → ListReport → Type 0) (n : ℕ) (before after : List ListReport)
    : Type 0 where
  pub as_many : length after ≡ length before
  pub lines :
      (l : ℕ) → l < n
      → (line : ListReport) × (slice_get after l ≡ Some line) × is l line
  pub behind : (k : ℕ) → n ≤ k → slice_get after k ≡ slice_get before k

-- a slave may be closed with so much room for lines: no task is away
abbrev pub MayClose : LendingSlaveState → LendingSlaveState → ℕ → Type 0
MayClose s t room = Collects s t × NoneAway t × (MAX_LISTS ≤ room)

-- why it stays open
abbrev pub StaysOpen : LendingSlaveState → LendingSlaveState → ℕ → Status → Type 0
StaysOpen s t room status.SmallBuffer = (room < MAX_LISTS) × (t ≡ s)
StaysOpen s t room status.Unfinished = (MAX_LISTS ≤ room) × Collects s t × SomeAway t
StaysOpen s t room _ = ⊥

-- the account of the session is told: a line for each list that there may be; and so are those
-- of the last measurements
pub record TellsAccount (s : LendingSlaveState) (before after : AccountRoom) : Type 0 where
  -- fixed by `closes`
  pub account : AccountState
  pub complete : Complete
  pub closes : Closes s account after.whole complete
  pub lines : HasLines (IsLineIn account) MAX_LISTS before.lines after.lines
  pub each : TellsEach account complete after.each

-- a slave is given up with its account
abbrev pub ClosesSlave : LendingSlaveState → AccountRoom → AccountRoom → Type 0
ClosesSlave s before after =
    (t : LendingSlaveState) × Collects s t × NoneAway t × TellsAccount t before after

-- why what is held stays, if it is to be closed with so much room for lines
abbrev pub StaysHeld : Option Content → Option Content → ℕ → Status → Type 0
StaysHeld (Some (held.Slave s)) new room result =
    (t : LendingSlaveState) × (new ≡ Some (held.Slave t)) × StaysOpen s t room result
StaysHeld old new room result = (result ≡ status.Empty) × (new ≡ old)

-- what is held is a slave that may be closed
abbrev pub MayCloseHeld : Content → Content → ℕ → Type 0
MayCloseHeld (held.Slave s) new room =
    (t : LendingSlaveState) × (new ≡ held.Slave t) × MayClose s t room
MayCloseHeld old new room = ⊥

-- the slave that is held is given up
abbrev pub ClosesHeld : Option Content → AccountRoom → AccountRoom → Type 0
ClosesHeld (Some (held.Slave s)) before after = ClosesSlave s before after
ClosesHeld old before after = ⊥

-- what ng_slave_close does to a handle
abbrev pub ClosesSlaveOf
    : Option Content → Option Content → AccountRoom → AccountRoom → Status → Type 0
ClosesSlaveOf old new before after result =
    ((result ≡ status.Ok) × (new ≡ None) × ClosesHeld old before after)
    ⊎ (StaysHeld old new (length before.lines) result × (after ≡ before))
