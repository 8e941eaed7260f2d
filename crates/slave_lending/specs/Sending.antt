-- What a slave shows of what waits, and what was sent.
use Rattle.std.specs.Prelude.{◌≡◌, ℕ, List, [], drop, length, min}
use Rattle.std.specs.Prelude.{take as first}
use Rattle.frame_writer.specs.Frame.{text}
use Rattle.slave_outbox.specs.Outboxes.{Shows, packets_in}
use Rattle.slave.specs.Hearing.{GoesBy}
use Rattle.slave.specs.Log.{sending}
use Rattle.slave.specs.Standing.{SlaveState}
use Rattle.slave.specs.Taking.{LetsGo, LooksThrough, TakesFairly, TakesItems}
use Rattle.slave.specs.Taking.{most_taken}
use Rattle.slave_lending.specs.States.{LendingSlaveState}

-- items were taken, by turns, as far as some were known and found room, and what measurements
-- before the newest held was let go; and then as many of the frames that waited as find room were
-- copied to the front of the buffer, n bytes
pub record Peeks (a b : LendingSlaveState) (before after : List ℕ) (n : ℕ) : Type 0 where
  pub taken : SlaveState
  pub takes : TakesItems most_taken a.slave taken
  pub through : LooksThrough a.slave taken
  pub fair : TakesFairly a.slave taken
  pub lets_go : LetsGo a.slave taken
  pub shows : Shows taken.outbox (length before) b.slave.outbox.shown n
  pub bytes :
      first n after
      ≡ text taken.outbox.counter (packets_in (first b.slave.outbox.shown taken.outbox.waits))
  pub behind : drop n after ≡ drop n before
  pub stays : GoesBy taken b.slave []
  pub counted : b.slave.acts ≡ taken.acts
  pub next : b.slave.next ≡ taken.next
  pub profile : b.slave.session.profile ≡ a.slave.session.profile
  pub stream : b.stream ≡ a.stream
  pub tasks : b.tasks ≡ a.tasks

-- what the last peek showed was sent
pub record Sends (a b : LendingSlaveState) : Type 0 where
  pub sends :
      GoesBy a.slave b.slave
      (sending (min a.slave.outbox.shown (length a.slave.outbox.waits)))
  pub none_shown : b.slave.outbox.shown ≡ 0
  pub counted : b.slave.acts ≡ a.slave.acts
  pub next : b.slave.next ≡ a.slave.next
  pub profile : b.slave.session.profile ≡ a.slave.session.profile
  pub stream : b.stream ≡ a.stream
  pub tasks : b.tasks ≡ a.tasks
