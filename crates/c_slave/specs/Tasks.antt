-- What the calls of tasks answer and what they leave, by their status.
use Rattle.std.specs.Prelude.{◌≡◌, ℕ, ◌≤◌, List, length, slice_get, Option, Some, None, Result}
use Rattle.std.specs.Prelude.{Ok, Err}
use Rattle.c_engine.specs.Samplers.{taken_out}
use Rattle.c_slave.specs.declared.content.Content.{Content}
use Rattle.c_slave.specs.declared.content.Content.TheVariants as held
use Rattle.c_engine.specs.declared.status.Status.{Status}
use Rattle.c_engine.specs.declared.status.Status.TheVariants as status
use Rattle.c_engine.specs.declared.taken_out.TakenOut.{TakenOut}
use Rattle.frame_ring.specs.declared.frame_send.FrameSend.{FrameSend}
pub use Rattle.segments.specs.Memory.{parts}
use Rattle.sampler.specs.declared.faults.MemoryFault.TheVariants as fault
use Rattle.sampler.specs.declared.taken.Taken.{Taken}
use Rattle.slave_lending.specs.Lends.{LendsTask}
use Rattle.slave_lending.specs.LentTasks.{GivenTaskState, IsLeftOf, TakesTurnWith}
use Rattle.slave_lending.specs.Slots.{SlotState, with_task}
use Rattle.slave_lending.specs.States.{LendingSlaveState}
use Rattle.slave_lending.specs.declared.lend_fault.LendFault.{LendFault}
use Rattle.slave_lending.specs.declared.lend_fault.LendFault.TheVariants as refusal
use Rattle.tasks.specs.Tasks.{TaskState}
use Rattle.c_slave.specs.OnHandles.{OnSlave, OnTask}

-- what a fault is to C
abbrev pub status_of : LendFault → Status
status_of refusal.NoChannel = status.BadLimits
status_of refusal.Lent = status.NoTask
status_of refusal.Memory = status.Memory

-- what a slave hands out into an empty handle
abbrev pub LendsInto
    : LendingSlaveState → LendingSlaveState → ℕ → Option Content → Status → Type 0
LendsInto s t c given status.Ok =
    (task : TaskState FrameSend) × (given ≡ Some (held.Task task)) × LendsTask s t c task
LendsInto s t c given status.BadLimits = (length s.tasks ≤ c) × (t ≡ s) × (given ≡ None)
LendsInto s t c given status.NoTask =
    ((at : SlotState) × (slice_get s.tasks c ≡ Some at) × (at.here ≡ None))
    × (t ≡ s) × (given ≡ None)
LendsInto s t c given status.Memory =
    ((task : TaskState FrameSend) × (slice_get s.tasks c ≡ Some (with_task task)))
    × (t ≡ s) × (given ≡ None)
LendsInto s t c given _ = ⊥

-- what ng_slave_task does to the handles of a slave and of a task
abbrev pub GivesTask
    : Option Content → Option Content → ℕ → Option Content → Option Content → Status → Type 0
GivesTask old new c (Some it) given result =
    (result ≡ status.InUse) × (given ≡ Some it) × (new ≡ old)
GivesTask old new c None given result =
    OnSlave old new result (given ≡ None) (λ s t. LendsInto s t c given result)

-- what a task does at a trigger, with the bytes of each segment
abbrev pub TriggersTask
    : TaskState FrameSend → TaskState FrameSend → List (List ℕ) → ℕ → TakenOut → TakenOut → Status
    → Type 0
TriggersTask s t memory stamp before after status.Ok =
    (taken : Taken) × (after ≡ taken_out taken) × TakesTurnWith s t memory stamp (Ok taken)
TriggersTask s t memory stamp before after status.WrongMemory =
    TakesTurnWith s t memory stamp (Err fault.WrongMemory) × (after ≡ before)
TriggersTask s t memory stamp before after status.Spent =
    TakesTurnWith s t memory stamp (Err fault.Spent) × (after ≡ before)
TriggersTask s t memory stamp before after _ = ⊥

-- a task is held
abbrev pub IsTask : Content → Type 0
IsTask (held.Task s) = Unit {0}
IsTask _ = ⊥

-- what a finish is to C
abbrev pub status_of_finish : Result GivenTaskState Status → Status
status_of_finish (Ok given) = status.Ok
status_of_finish (Err status) = status

-- the task of a handle was finished, and what is left of it was given back; the handle is empty
-- then
abbrev pub FinishesHeldBy
    : Option Content → Option Content → Result GivenTaskState Status → Type 0
FinishesHeldBy (Some (held.Task s)) new (Ok given) = (new ≡ None) × IsLeftOf s given.left
FinishesHeldBy (Some (held.Task s)) new (Err status) = ⊥
FinishesHeldBy old new result = (result ≡ Err status.Empty) × (new ≡ old)

-- what ng_task_finish does to a handle
abbrev pub FinishesHeld : Option Content → Option Content → Status → Type 0
FinishesHeld old new result =
    (finish : Result GivenTaskState Status) × (result ≡ status_of_finish finish)
    × FinishesHeldBy old new finish

-- what ng_task_trigger does to a handle
abbrev pub TriggersHeldTask
    : Option Content → Option Content → List (List ℕ) → ℕ → TakenOut → TakenOut → Status
    → Type 0
TriggersHeldTask old new memory stamp before after result =
    OnTask old new result (after ≡ before)
    (λ s t. TriggersTask s t memory stamp before after result)
