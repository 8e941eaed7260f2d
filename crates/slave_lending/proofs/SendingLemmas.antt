-- What a peek does: items are taken, and then what waits is shown.
use Rattle.std.proofs.Common.{◌≡◌, ◌∙◌, ℕ, List, [], drop, length, refl, ap, subst}
use Rattle.std.specs.Prelude.{take as first}
use Rattle.frame_writer.specs.Frame.{text}
use Rattle.slave_outbox.specs.Outboxes.{Shows, packets_in}
use Rattle.frame_writer.specs.Reading.{ReaderState}
use Rattle.session.specs.Standing.{SessionState}
use Rattle.slave.specs.Hearing.{GoesBy}
use Rattle.slave.specs.Standing.{SlaveState}
use Rattle.slave.specs.Taking.{LetsGo, LooksThrough, TakesFairly, TakesItems, most_taken}
use Rattle.slave_lending.specs.Sending.{Peeks}
use Rattle.slave_lending.specs.Slots.{SlotState}
use Rattle.slave_lending.specs.States.{LendingSlaveState}

pub peeks : {a : LendingSlaveState} {slave : SlaveState} {stream : ReaderState} {tasks : List SlotState}
    → record { slave = slave; stream = stream; tasks = tasks } ≡ a → (taken b : SlaveState) (before after : List ℕ) (n : ℕ)
    → TakesItems most_taken slave taken → LooksThrough slave taken → TakesFairly slave taken → LetsGo slave taken → Shows taken.outbox (length before) b.outbox.shown n → first n after ≡ text taken.outbox.counter (packets_in (first b.outbox.shown taken.outbox.waits))
    → drop n after ≡ drop n before → GoesBy taken b [] → b.acts ≡ taken.acts → b.next ≡ taken.next → b.session.profile ≡ taken.session.profile
    → Peeks a (record { slave = b; stream = stream; tasks = tasks }) before after n
peeks {a} {slave} {stream} {tasks} is taken b before after n takes through fair lets_go shows bytes behind stays counted next profile =
    subst (λ (x : LendingSlaveState). Peeks x (record { slave = b; stream = stream; tasks = tasks }) before after n) is (record {
      taken = taken;
      takes = takes;
      through = through;
      fair = fair;
      lets_go = lets_go;
      shows = shows;
      bytes = bytes;
      behind = behind;
      stays = stays;
      counted = counted;
      next = next;
      profile = profile ∙ ap (λ (s : SessionState). s.profile) takes.session;
      stream = refl;
      tasks = refl;
    })
