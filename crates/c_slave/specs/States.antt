-- What a slave is about.
use Rattle.std.specs.Prelude.{◌≡◌, true, false, Option}
use Rattle.slave_outbox.specs.Outboxes.{bytes_in}
use Rattle.c_slave.specs.declared.content.Content.{Content}
use Rattle.c_engine.specs.declared.status.Status.{Status}
use Rattle.c_engine.specs.declared.status.Status.TheVariants as status
use Rattle.slave.specs.Standing.{Busy, Idle}
use Rattle.slave_lending.specs.States.{LendingSlaveState}
use Rattle.c_slave.specs.OnHandles.{OnSlave}
use Rattle.c_slave.specs.declared.state_out.StateOut.{StateOut}

-- whether a master is connected, whether some list runs, and how many bytes wait
pub record IsStateOf (s : LendingSlaveState) (state : StateOut) : Type 0 where
  pub connected : state.connected ≡ s.slave.session.connected
  pub busy : state.measuring ≡ true → Busy s.slave.session
  pub idle : state.measuring ≡ false → Idle s.slave.session
  pub waiting : state.waiting ≡ bytes_in s.slave.outbox.waits

-- what ng_slave_status does to a handle: it is told, and the slave is as it was
abbrev pub TellsState : Option Content → Option Content → StateOut → StateOut → Status → Type 0
TellsState old new before after result =
    OnSlave old new result (after ≡ before)
    (λ s t. (result ≡ status.Ok) × (t ≡ s) × IsStateOf s after)
