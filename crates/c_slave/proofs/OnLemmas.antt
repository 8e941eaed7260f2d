-- What holds of the slave or the task that a handle holds holds of the handle.
use Rattle.std.proofs.Common.{◌≡◌, Some, ap, refl, sym, subst}
use Rattle.c_engine.specs.declared.status.Status.{Status}
use Rattle.frame_ring.specs.declared.frame_send.FrameSend.{FrameSend}
use Rattle.slave_lending.specs.States.{LendingSlaveState}
use Rattle.tasks.specs.Tasks.{TaskState}
use Rattle.c_slave.specs.declared.content.Content.{Content}
use Rattle.c_slave.specs.declared.content.Content.TheVariants as held
use Rattle.c_slave.specs.OnHandles.{OnSlave, OnTask}

module _ {content : Content} (result : Status) (stays : Type 0) (does : LendingSlaveState → LendingSlaveState → Type 0) where
  pub on_slave : {s t : LendingSlaveState} → content ≡ held.Slave s → does s t
      → OnSlave (Some content) (Some (held.Slave t)) result stays does
  on_slave {s} {t} is so =
      subst (λ (c : Content). OnSlave (Some c) (Some (held.Slave t)) result stays does) (sym is) (t, refl, so)

  -- and so if it is only looked at
  pub on_slave_seen : {s : LendingSlaveState} → content ≡ held.Slave s → does s s
      → OnSlave (Some content) (Some content) result stays does
  on_slave_seen {s} is so =
      subst (λ (c : Content). OnSlave (Some c) (Some c) result stays does) (sym is) (s, refl, so)

pub on_task : {content : Content} (result : Status) (stays : Type 0) (does : TaskState FrameSend → TaskState FrameSend → Type 0)
    {s t : TaskState FrameSend} → content ≡ held.Task s → does s t → OnTask (Some content) (Some (held.Task t)) result stays does
on_task result stays does {s} {t} is so =
    subst (λ (c : Content). OnTask (Some c) (Some (held.Task t)) result stays does) (sym is) (t, refl, so)

-- what is held, where it is of that kind
abbrev slave_or : LendingSlaveState → Content → LendingSlaveState
slave_or other (held.Slave s) = s
slave_or other _ = other

abbrev task_or : TaskState FrameSend → Content → TaskState FrameSend
task_or other (held.Task s) = s
task_or other _ = other

-- two that are held as the same are the same
pub same-slave : {s t : LendingSlaveState} → held.Slave s ≡ held.Slave t → s ≡ t
same-slave {s} {t} is = ap (slave_or s) is

pub same-task : {s t : TaskState FrameSend} → held.Task s ≡ held.Task t → s ≡ t
same-task {s} {t} is = ap (task_or s) is
