-- What the slave does is done by what lends its tasks, which stay.
use Rattle.session.specs.Past.{Given}
use Rattle.std.proofs.Common.{◌≡◌, ◌⊎◌, ℕ, ◌≤◌, Bool, true, false, List, [], ◌++◌, length, inl, inr, refl, ap, ◌∙◌, subst}
use Rattle.std.specs.Prelude.{min, take as first, Result, Ok, Err, IfOk, IsErr, OnErr, OnOk}
use Rattle.std.proofs.lemmas.Bool.{false≢true}
use Rattle.frame_ring.specs.declared.frame_send.FrameSend.{FrameSend}
use Rattle.slave_outbox.specs.Outboxes.{has_waiting}
use Rattle.frame_writer.specs.Reading.{ReaderStandsAfter, ReaderState}
use Rattle.slave_channels.specs.Accounts.{AccountState}
use Rattle.slave.specs.declared.complete.Complete.{Complete}
use Rattle.slave.specs.Closing.{Closes as ClosesWith}
use Rattle.slave.specs.Hearing.{GoesBy, KeepsLines, may_hear}
use Rattle.slave.specs.Log.{discarding, losing, sending}
use Rattle.slave.specs.Standing.{SlaveState}
use Rattle.slave_channels.specs.Calls.{rings_of}
use Rattle.slave.specs.Receiving.{HearsDatagram, LosesStream, Receives}
use Rattle.tasks.specs.Tasks.{TaskEndState}
use Rattle.slave_lending.specs.Bytes.{HangsUp, HearsBytes, RefusesBytes, TakesBytes}
use Rattle.slave_lending.specs.Lends.{Closes}
use Rattle.slave_lending.specs.Sending.{Sends}
use Rattle.slave_lending.specs.Slots.{AreEndsOf, SlotState}
use Rattle.slave_lending.specs.States.{LendingSlaveState}
use Rattle.slave_lending.proofs.TaskLemmas.{with_slots}

is-bool : (b : Bool) → (b ≡ true) ⊎ (b ≡ false)
is-bool true = inl refl
is-bool false = inr refl

module _ (slave : SlaveState) (stream : ReaderState) (tasks : List SlotState) (a : LendingSlaveState)
    (is : with_slots slave stream tasks ≡ a) where
  pub hears-bytes : (b : SlaveState) (given : Given) (bytes : List ℕ) (n : ℕ) → HearsDatagram slave b given bytes n → n ≤ length bytes
      → (n ≡ length bytes) ⊎ (may_hear b ≡ false) → HearsBytes a (with_slots b stream tasks) given bytes n
  hears-bytes b given bytes n hears within all =
      subst (λ (x : LendingSlaveState). HearsBytes x (with_slots b stream tasks) given bytes n) is
      (record { hears = hears; within = within; all = all; stream = refl; tasks = refl })

  pub hangs-up : (b : SlaveState) (new : ReaderState) → GoesBy slave b (discarding (has_waiting slave.outbox) ++ losing slave.session.connected)
      → b.outbox.waits ≡ [] → b.outbox.shown ≡ 0 → b.acts ≡ slave.acts → b.next ≡ slave.next → b.session.profile ≡ slave.session.profile
      → ReaderStandsAfter new [] [] → new.closed ≡ false → new.max_cto ≡ b.session.profile.max_cto → HangsUp a (with_slots b new tasks)
  hangs-up b new goes none none_shown counted next profile fresh open_still by_profile =
      subst (λ (x : LendingSlaveState). HangsUp x (with_slots b new tasks)) is
      (record { hangs_up = goes; none_waits = none; none_shown = none_shown; counted = counted; next = next; profile = profile; fresh = fresh; is_open = open_still; max_cto = by_profile; tasks = refl })

  pub sends : (b : SlaveState) → GoesBy slave b (sending (min slave.outbox.shown (length slave.outbox.waits)))
      → b.outbox.shown ≡ 0 → b.acts ≡ slave.acts → b.next ≡ slave.next → b.session.profile ≡ slave.session.profile → Sends a (with_slots b stream tasks)
  sends b goes none counted next profile =
      subst (λ (x : LendingSlaveState). Sends x (with_slots b stream tasks)) is
      (record { sends = goes; none_shown = none; counted = counted; next = next; profile = profile; stream = refl; tasks = refl })

  not-closed : (stream.closed ≡ true → ⊥) → stream.closed ≡ false
  not-closed closed =
      elim (is-bool stream.closed) [
        | inl on ↦ absurd (closed on)
        | inr off ↦ off
      ]

  module _ {E : Type 0} (new : ReaderState) (b : SlaveState) (given : Given) (bytes : List ℕ) where
    same-count : (n : ℕ) → ◌≡◌ {A = Result ℕ E} (Ok n) (Ok 0) → n ≡ 0
    same-count n same = cc

    pub takes-if : (result : Result ℕ E) → IfOk result (λ n. Receives stream new slave b given (first n bytes)) → IfOk result (λ n. n ≤ length bytes)
        → IfOk result (λ n. (n ≡ length bytes) ⊎ (may_hear b ≡ false)) → IfOk result (λ n. (n ≡ length bytes) ⊎ ((n ≡ 0) ⊎ (new.held ≡ [])))
        → OnOk result (new.closed ≡ false) → (stream.closed ≡ false → may_hear slave ≡ false → (result ≡ Ok 0) × (new ≡ stream) × (b ≡ slave))
        → (stream.closed ≡ true → IsErr result) → IfOk result (TakesBytes a (with_slots b new tasks) given bytes)
    takes-if (Err e) receives within all ends still none closed = tt
    takes-if (Ok n) receives within all ends still none closed =
        let was = not-closed (λ on. false≢true (closed on)) in
        subst (λ (x : LendingSlaveState). TakesBytes x (with_slots b new tasks) given bytes n) is
        (record {
          receives = receives;
          within = within;
          all = all;
          ends = ends;
          was_open = was;
          stays_open = still;
          no_room = λ full. let so = none was full in (same-count n so.0, (λ i. with_slots (so.2 i) (so.1 i) tasks));
          tasks = refl;
        })

    pub refuses-if : (result : Result ℕ E) → (stream.closed ≡ false → OnErr result (LosesStream stream new slave b given bytes))
        → (stream.closed ≡ true → (new ≡ stream) × (b ≡ slave)) → OnErr result (RefusesBytes a (with_slots b new tasks) given bytes)
    refuses-if (Ok n) bad stays = tt
    refuses-if (Err e) bad stays =
        subst (λ (x : LendingSlaveState). RefusesBytes x (with_slots b new tasks) given bytes) is
        (record {
          bad = bad;
          closed = λ on. let so = stays on in (λ i. with_slots (so.1 i) (so.0 i) tasks);
          tasks = refl;
        })

    -- event channels are on their lines still
    pub receives-lines : (result : Result ℕ E) → IfOk result (λ n. Receives stream new slave b given (first n bytes))
        → (stream.closed ≡ false → OnErr result (LosesStream stream new slave b given bytes))
        → (stream.closed ≡ true → (new ≡ stream) × (b ≡ slave)) → KeepsLines slave b
    receives-lines (Ok n) receives bad stays = receives.hears.goes.0
    receives-lines (Err e) receives bad stays =
        elim (is-bool stream.closed) [
          | inl on ↦ ap (λ (s : SlaveState). rings_of s.channels) (stays on).1
          | inr off ↦
              let loses = bad off in
              loses.disconnects.0 ∙ loses.breaks_off.receives.hears.goes.0
        ]

-- with what is left of the tasks the slave is closed
pub closes-with : (slave : SlaveState) (stream : ReaderState) (tasks : List SlotState) (a : LendingSlaveState) → with_slots slave stream tasks ≡ a
    → (ends : List (TaskEndState FrameSend)) (account : AccountState) (whole : Bool) (complete : Complete) → AreEndsOf tasks ends → ClosesWith slave ends account whole complete
    → Closes a account whole complete
closes-with slave stream tasks a is ends account whole complete are closes =
    subst (λ (x : LendingSlaveState). Closes x account whole complete) is
    (record { ends = ends; are = are; closes = closes })
