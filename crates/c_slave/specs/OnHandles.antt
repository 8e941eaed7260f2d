-- What the calls of the handles of slaves and tasks have in common.
use Rattle.std.specs.Prelude.{◌≡◌, Option, Some}
use Rattle.frame_ring.specs.declared.frame_send.FrameSend.{FrameSend}
use Rattle.c_slave.specs.declared.content.Content.{Content}
use Rattle.c_slave.specs.declared.content.Content.TheVariants as held
use Rattle.c_engine.specs.declared.status.Status.{Status}
use Rattle.c_engine.specs.declared.status.Status.TheVariants as status
use Rattle.slave_lending.specs.States.{LendingSlaveState}
use Rattle.tasks.specs.Tasks.{TaskState}

-- what a call does to the handle of a slave: a slave stays in it, of which this holds. If there is
-- none it answers so, and leaves it, as what is said there
abbrev pub OnSlave
    : Option Content → Option Content → Status → Type 0
    → (LendingSlaveState → LendingSlaveState → Type 0) → Type 0
OnSlave (Some (held.Slave s)) new result stays does =
    (t : LendingSlaveState) × (new ≡ Some (held.Slave t)) × does s t
OnSlave old new result stays does = (result ≡ status.Empty) × (new ≡ old) × stays

-- the same of the handle of a task
abbrev pub OnTask
    : Option Content → Option Content → Status → Type 0
    → (TaskState FrameSend → TaskState FrameSend → Type 0) → Type 0
OnTask (Some (held.Task s)) new result stays does =
    (t : TaskState FrameSend) × (new ≡ Some (held.Task t)) × does s t
OnTask old new result stays does = (result ≡ status.Empty) × (new ≡ old) × stays
