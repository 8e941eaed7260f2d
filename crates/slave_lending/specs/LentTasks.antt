-- What a task does that a slave lends: it takes triggers, and is finished.
use Rattle.std.specs.Prelude.{ℕ, List, Result}
use Rattle.frame_ring.specs.contracts.frame_left.FrameLeftRingEnd.TheImpl.{ghosts as ring}
use Rattle.frame_ring.specs.contracts.frame_send.FrameSendSendEnd.TheImpl.{ghosts as send}
use Rattle.frame_ring.specs.declared.frame_send.FrameSend.{FrameSend}
use Rattle.sampler.specs.declared.faults.MemoryFault.{MemoryFault}
use Rattle.sampler.specs.declared.taken.Taken.{Taken}
use Rattle.hand_over.specs.Ways.{GivenState}
use Rattle.tasks.specs.Tasks.{FinishesAs, TakesTurn, TaskEndState, TaskState}

-- the most orders that a task carries out before a trigger, and what it answers if there is no
-- measurement
abbrev pub most_steps : ℕ
most_steps = 256

abbrev pub none_due : Taken
none_due = record { due = 0; accepted = 0; dropped = 0 }

-- what was ordered was done, and then a trigger was taken with the bytes of each segment, or
-- refused
abbrev pub TakesTurnWith
    : TaskState FrameSend → TaskState FrameSend → List (List ℕ) → ℕ → Result Taken MemoryFault
    → Type 0
TakesTurnWith s t memory stamp result =
    TakesTurn send ring most_steps none_due s t memory stamp result

-- the way back on which what is left of a task was given
abbrev pub GivenTaskState : Type 0
GivenTaskState = GivenState (TaskState FrameSend) (TaskEndState FrameSend)

-- a task was finished, and this is left of it
abbrev pub IsLeftOf : TaskState FrameSend → TaskEndState FrameSend → Type 0
IsLeftOf task end = FinishesAs send ring task end
