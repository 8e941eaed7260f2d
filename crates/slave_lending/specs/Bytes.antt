-- What a slave does with the bytes of its master.
use Rattle.std.specs.Prelude.{◌≡◌, ◌⊎◌, ℕ, ◌≤◌, false, true, List, [], ◌++◌, length}
use Rattle.std.specs.Prelude.{take as first}
use Rattle.session.specs.Past.{Given}
use Rattle.slave_outbox.specs.Outboxes.{has_waiting}
use Rattle.frame_writer.specs.Reading.{ReaderStandsAfter}
use Rattle.slave.specs.Hearing.{GoesBy, may_hear}
use Rattle.slave.specs.Log.{discarding, losing}
use Rattle.slave.specs.Receiving.{HearsDatagram, LosesStream, Receives}
use Rattle.slave_lending.specs.States.{LendingSlaveState}

-- so many bytes of a stream were taken, all or those up to the end of a frame behind which no
-- reply finds room; and the packets of the frames that they ended were heard
pub record TakesBytes (a b : LendingSlaveState) (given : Given) (bytes : List ℕ) (n : ℕ)
    : Type 0 where
  pub receives : Receives a.stream b.stream a.slave b.slave given (first n bytes)
  pub within : n ≤ length bytes
  pub all : (n ≡ length bytes) ⊎ (may_hear b.slave ≡ false)
  pub ends : (n ≡ length bytes) ⊎ ((n ≡ 0) ⊎ (b.stream.held ≡ []))
  pub was_open : a.stream.closed ≡ false
  pub stays_open : b.stream.closed ≡ false
  pub no_room : may_hear a.slave ≡ false → (n ≡ 0) × (b ≡ a)
  pub tasks : b.tasks ≡ a.tasks

-- a frame was bad: the packets before it were heard, the slave disconnected, and the stream is
-- closed; if it was closed before, nothing changed
pub record RefusesBytes (a b : LendingSlaveState) (given : Given) (bytes : List ℕ)
    : Type 0 where
  pub bad :
      a.stream.closed ≡ false
      → LosesStream a.stream b.stream a.slave b.slave given bytes
  pub closed : a.stream.closed ≡ true → b ≡ a
  pub tasks : b.tasks ≡ a.tasks

-- so many bytes of a datagram were taken, all or those up to the end of a frame behind which no
-- reply finds room; and the packets of its frames were heard
pub record HearsBytes (a b : LendingSlaveState) (given : Given) (bytes : List ℕ) (n : ℕ)
    : Type 0 where
  pub hears : HearsDatagram a.slave b.slave given bytes n
  pub within : n ≤ length bytes
  pub all : (n ≡ length bytes) ⊎ (may_hear b.slave ≡ false)
  pub stream : b.stream ≡ a.stream
  pub tasks : b.tasks ≡ a.tasks

-- the slave hung up, so that nothing waits, and another stream begins
pub record HangsUp (a b : LendingSlaveState) : Type 0 where
  pub hangs_up :
      GoesBy a.slave b.slave
      (discarding (has_waiting a.slave.outbox) ++ losing a.slave.session.connected)
  pub none_waits : b.slave.outbox.waits ≡ []
  pub none_shown : b.slave.outbox.shown ≡ 0
  pub counted : b.slave.acts ≡ a.slave.acts
  pub next : b.slave.next ≡ a.slave.next
  pub profile : b.slave.session.profile ≡ a.slave.session.profile
  pub fresh : ReaderStandsAfter b.stream [] []
  pub is_open : b.stream.closed ≡ false
  pub max_cto : b.stream.max_cto ≡ b.slave.session.profile.max_cto
  pub tasks : b.tasks ≡ a.tasks
