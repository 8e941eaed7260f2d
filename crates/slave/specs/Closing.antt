-- What a slave leaves where it is closed.
use Rattle.std.specs.Prelude.{◌≡◌, ℕ, ◌+◌, ◌-◌, ◌*◌, ◌≤◌, ◌↔◌, Bool, true, List, ◌++◌}
use Rattle.std.specs.Prelude.{length, map}
use Rattle.std.specs.Prelude.{slice_get, Some}
use Rattle.std.specs.List.{list_all}
use Rattle.xcp_base.specs.declared.limits.TheConstants.{MAX_CHANNELS}
use Rattle.frame_ring.specs.declared.frame_send.FrameSend.{FrameSend}
use Rattle.slave_outbox.specs.Outboxes.{has_waiting}
use Rattle.session.specs.declared.profile.Profile.{Profile}
use Rattle.slave_channels.specs.Channels.{ChannelState}
use Rattle.slave_channels.specs.Calls.{rings_of}
use Rattle.tasks.specs.Tasks.{TaskEndState}
use Rattle.slave_channels.specs.Accounts.{AccountStandsAfter, AccountState, end_of}
use Rattle.slave_channels.specs.declared.sums.TheConstants.{LAST}
use Rattle.slave.specs.declared.complete.Complete.{Complete}
use Rattle.slave.specs.Log.{Act, AllBack, AllBackWithin, discarding, entries_of, is_return}
use Rattle.slave.specs.Log.{late_in, losing}
use Rattle.slave.specs.Returns.{AreReturns, ends_in, returns_at}
use Rattle.slave.specs.Session.{SessionLaw}
use Rattle.slave.specs.Standing.{IsLog, SlaveStandsAfter, SlaveState}

-- what came back of each event channel is what its task gave back, each once and in order, beside
-- samplers that the task never fetched
abbrev pub AreOfTasks : List (TaskEndState FrameSend) → List Act → Type 0
AreOfTasks ends log =
    (c : ℕ) (end : TaskEndState _) → slice_get ends c ≡ Some end
    → AreReturns (returns_at c log) (ends_in end.gave)

-- these are the ends of the tasks of event channels, in their order: each is of its line
abbrev pub AreEndsOf : List ChannelState → List (TaskEndState FrameSend) → Type 0
AreEndsOf channels ends = map (λ (end : TaskEndState _). end.ring) ends ≡ rings_of channels

-- it says of each of the last four measurements whether all parts came back, in the order of their
-- numbers, and of all before them
pub record IsComplete (d : Profile) (log : List Act) (complete : Complete) : Type 0 where
  pub many : length complete.last ≡ LAST
  pub last :
      (i : ℕ) (has : Bool) → slice_get complete.last i ≡ Some has
      → (has ≡ true)
      ↔ AllBackWithin (end_of (entries_of d log) - LAST + i)
      (end_of (entries_of d log) - LAST + (i + 1)) d log
  pub older :
      (complete.older ≡ true) ↔ AllBackWithin 0 (end_of (entries_of d log) - LAST) d log

-- an account is that of a whole log, of which the law of a session holds: of all parts that came
-- back, without what was thrown away behind that, together and of the last four measurements alone;
-- and it is whole where all parts came back
pub record IsClosedWith (d : Profile) (account : AccountState) (whole : Bool) (complete : Complete)
    (log : List Act)
    : Type 0 where
  pub is_log : IsLog d log
  pub law : SessionLaw d log
  pub account_is : AccountStandsAfter account (entries_of d log) (late_in d log)
  pub whole_is : (whole ≡ true) ↔ AllBack d log
  pub complete_is : IsComplete d log complete

-- the lists stopped, as where the master is lost, if one was connected; what waited was thrown
-- away; and parts came back, two at most of an event channel. The account is that of this and all
-- that was before: of all that the tasks gave back
pub record Closes (a : SlaveState) (ends : List (TaskEndState FrameSend)) (account : AccountState)
    (whole : Bool) (complete : Complete)
    : Type 0 where
  pub last : List Act
  pub are : list_all is_return last ≡ true
  pub few : length last ≤ 2 * MAX_CHANNELS
  pub closed :
      (log : List Act) → SlaveStandsAfter a.session.profile a log
      → IsClosedWith a.session.profile account whole complete
      (last ++ (discarding (has_waiting a.outbox) ++ (losing a.session.connected ++ log)))
      × AreOfTasks ends
      (last ++ (discarding (has_waiting a.outbox) ++ (losing a.session.connected ++ log)))
