-- What the calls by which a slave hears its master, and is shown and sent what waits, answer and
-- leave, by their status.
use Rattle.std.specs.Prelude.{◌≡◌, ℕ, ◌<◌, ◌≤◌, false, true, List, length, Option}
use Rattle.c_slave.specs.declared.content.Content.{Content}
use Rattle.c_engine.specs.declared.status.Status.{Status}
use Rattle.c_engine.specs.declared.status.Status.TheVariants as status
use Rattle.slave.specs.Hearing.{is_spent}
use Rattle.slave.specs.Taking.{least_peek}
use Rattle.slave_lending.specs.Bytes.{HangsUp, HearsBytes, RefusesBytes, TakesBytes}
use Rattle.slave_lending.specs.Sending.{Peeks, Sends}
use Rattle.slave_lending.specs.States.{LendingSlaveState}
use Rattle.session.specs.Past.{Given}
pub use Rattle.session.specs.Standing.{given_by}
use Rattle.c_slave.specs.OnHandles.{OnSlave}

-- the buffer of what is shown, and how many bytes of it that takes up
pub record ShownRoom : Type 0 where
  pub buffer : List ℕ
  pub len : ℕ

-- what a slave does with bytes of a stream, if it isn't spent; how many it took is told
abbrev pub ReceivesBytes
    : LendingSlaveState → LendingSlaveState → List ℕ → Given → ℕ → ℕ → Status → Type 0
ReceivesBytes s t bytes given before after status.Ok =
    (is_spent s.slave ≡ false) × TakesBytes s t given bytes after
ReceivesBytes s t bytes given before after status.BadFrame =
    (is_spent s.slave ≡ false) × RefusesBytes s t given bytes × (after ≡ before)
ReceivesBytes s t bytes given before after status.Spent =
    (is_spent s.slave ≡ true) × (t ≡ s) × (after ≡ before)
ReceivesBytes s t bytes given before after _ = ⊥

-- what it does with a datagram
abbrev pub ReceivesDatagram
    : LendingSlaveState → LendingSlaveState → List ℕ → Given → ℕ → ℕ → Status → Type 0
ReceivesDatagram s t bytes given before after status.Ok =
    (is_spent s.slave ≡ false) × HearsBytes s t given bytes after
ReceivesDatagram s t bytes given before after status.Spent =
    (is_spent s.slave ≡ true) × (t ≡ s) × (after ≡ before)
ReceivesDatagram s t bytes given before after _ = ⊥

-- what it shows of what waits
abbrev pub ShowsWaiting
    : LendingSlaveState → LendingSlaveState → ShownRoom → ShownRoom → Status → Type 0
ShowsWaiting s t before after status.Ok =
    (least_peek s.slave.session.profile ≤ length before.buffer)
    × Peeks s t before.buffer after.buffer after.len
ShowsWaiting s t before after status.SmallBuffer =
    (length before.buffer < least_peek s.slave.session.profile) × (t ≡ s) × (after ≡ before)
ShowsWaiting s t before after _ = ⊥

-- what ng_slave_receive does to a handle
abbrev pub Receives
    : Option Content → Option Content → List ℕ → Given → ℕ → ℕ → Status → Type 0
Receives old new packets given before after result =
    OnSlave old new result (after ≡ before)
    (λ s t. ReceivesBytes s t packets given before after result)

-- what ng_slave_datagram does to a handle
abbrev pub HearsDatagrams
    : Option Content → Option Content → List ℕ → Given → ℕ → ℕ → Status → Type 0
HearsDatagrams old new packets given before after result =
    OnSlave old new result (after ≡ before)
    (λ s t. ReceivesDatagram s t packets given before after result)

-- what ng_slave_hang_up does to a handle
abbrev pub HangsUpSlave : Option Content → Option Content → Status → Type 0
HangsUpSlave old new result =
    OnSlave old new result (Unit {0}) (λ s t. (result ≡ status.Ok) × HangsUp s t)

-- what ng_slave_peek does to a handle
abbrev pub PeeksSlave
    : Option Content → Option Content → ShownRoom → ShownRoom → Status → Type 0
PeeksSlave old new before after result =
    OnSlave old new result (after ≡ before) (λ s t. ShowsWaiting s t before after result)

-- what ng_slave_sent does to a handle
abbrev pub SendsSlave : Option Content → Option Content → Status → Type 0
SendsSlave old new result =
    OnSlave old new result (Unit {0}) (λ s t. (result ≡ status.Ok) × Sends s t)
