-- The task of an event channel, as its slave has it.
use Rattle.std.specs.Prelude.{◌≡◌, ◌⊎◌, Bool, false, true, not, ◌&&◌, List, [], ◌∷◌}
use Rattle.std.specs.Prelude.{Option, Some, None}
use Rattle.std.specs.Option.{is_some}
use Rattle.channel_ring.specs.Ends.{RingName}
use Rattle.frame_ring.specs.declared.frame_send.FrameSend.{FrameSend}
use Rattle.tasks.specs.Tasks.{TaskEndState, TaskState}
use Rattle.slave_lending.specs.LentTasks.{IsLeftOf}

-- the name of the task's line with the slave; the task, if it wasn't handed out; and what is left
-- of it, if that came back
pub record SlotState : Type 0 where
  pub ring : RingName
  pub here : Option (TaskState FrameSend)
  pub back : Option (TaskEndState FrameSend)

-- this task wasn't handed out; one is away; and this is left of one that came back
abbrev pub with_task : TaskState FrameSend → SlotState
with_task task = record { ring = task.ring; here = Some task; back = None }

abbrev pub away : RingName → SlotState
away ring = record { ring = ring; here = None; back = None }

abbrev pub came_back : TaskEndState FrameSend → SlotState
came_back end = record { ring = end.ring; here = None; back = Some end }

-- whether a task is away
abbrev pub is_away : SlotState → Bool
is_away s = not (is_some s.here) && not (is_some s.back)

-- what is left of a task that is away, of the same line, may have come back
abbrev pub MayComeBack : SlotState → SlotState → Type 0
MayComeBack a b =
    (b ≡ a)
    ⊎ ((a ≡ away a.ring)
    × ((end : TaskEndState FrameSend) × (end.ring ≡ a.ring) × (b ≡ came_back end)))

-- this is left of a task that was finished where it is, or it came back
abbrev pub IsEndBy
    : Option (TaskState FrameSend) → Option (TaskEndState FrameSend) → TaskEndState FrameSend
    → Type 0
IsEndBy (Some task) back end = IsLeftOf task end
IsEndBy None back end = back ≡ Some end

pub record IsEndOf (s : SlotState) (end : TaskEndState FrameSend) : Type 0 where
  pub line : end.ring ≡ s.ring
  pub of : IsEndBy s.here s.back end

-- so of each task
abbrev pub AreEndsOf : List SlotState → List (TaskEndState FrameSend) → Type 0
AreEndsOf [] [] = Unit {0}
AreEndsOf (s ∷ slots) (end ∷ ends) = IsEndOf s end × AreEndsOf slots ends
AreEndsOf _ _ = ⊥

-- of what a slot may hold, the task, its way back and what is left of it, there is one
abbrev pub IsOneOf : Bool → Bool → Bool → Type 0
IsOneOf true false false = Unit {0}
IsOneOf false true false = Unit {0}
IsOneOf false false true = Unit {0}
IsOneOf _ _ _ = ⊥
