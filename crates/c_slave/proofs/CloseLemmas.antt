-- How what holds of a slave that is to be closed comes to what the call says.
use Rattle.std.proofs.Common.{◌≡◌, ◌∙◌, ℕ, ◌+◌, ◌<◌, List, Option, Some, None, length, set, refl, subst, sym, inl, inr, arith}
use Rattle.std.specs.Prelude.{Result, Ok, Err, IfErr, OnOk, slice_get}
use Rattle.std.proofs.lemmas.Bool.Decides.{eqb_tells}
use Rattle.std.proofs.lemmas.List.{length-set}
use Rattle.daq_engine.specs.declared.report.ListReport.{ListReport}
use Rattle.slave_channels.proofs.EachLemmas.{get-set_other, get-set_same}
use Rattle.c_slave.specs.declared.content.Content.{Content}
use Rattle.c_slave.specs.declared.content.Content.TheVariants as held
use Rattle.c_engine.specs.declared.status.Status.{Status}
use Rattle.c_slave.specs.Ends.{AccountRoom, ClosesHeld, HasLines, MayClose, MayCloseHeld, StaysHeld, StaysOpen, TellsAccount}
use Rattle.slave_lending.specs.States.{LendingSlaveState}
use Rattle.c_slave.proofs.OnLemmas.{same-slave}

pub some-not-none : {A : Type 0} {x : A} → Some x ≡ None → ⊥
some-not-none is = absurd cc

-- one line more
pub lines-more : (is : ℕ → ListReport → Type 0) (l : ℕ) (before now : List ListReport) (line : ListReport) → l < length now
    → is l line → HasLines is l before now → HasLines is (l + 1) before (set now l line)
lines-more is l before now line there has so_far = record {
  as_many = length-set now l line ∙ so_far.as_many;
  lines = λ k below.
      elim (eqb_tells k l) [
        | inl w ↦
            subst (λ j. (x : ListReport) × (slice_get (set now l line) j ≡ Some x) × is j x) (sym w.1)
            (line, get-set_same now l line there, has)
        | inr w ↦
            let old = so_far.lines k (omega (arith, below, w.1)) in
            (old.0, get-set_other now l k line w.1 ∙ old.1, old.2)
      ];
  behind = λ k from. get-set_other now l k line (λ e. omega (arith, e, from)) ∙ so_far.behind k (omega (arith, from));
}

module _ {content : Content} (room : ℕ) where
  -- a slave that stays open stays held
  pub stays-held : {s : LendingSlaveState} (t : LendingSlaveState) → content ≡ held.Slave s → (result : Result (Unit {0}) Status)
      → IfErr result (StaysOpen s t room) → IfErr result (StaysHeld (Some content) (Some (held.Slave t)) room)
  stays-held t is (Ok u) so = tt
  stays-held {s} t is (Err status) so =
      subst (λ (c : Content). StaysHeld (Some c) (Some (held.Slave t)) room status) (sym is) (t, refl, so)

  -- one that may be closed may be where it is held
  pub may-close : {s : LendingSlaveState} (t : LendingSlaveState) → content ≡ held.Slave s
      → (result : Result (Unit {0}) Status) → OnOk result (MayClose s t room) → OnOk result (MayCloseHeld content (held.Slave t) room)
  may-close {s} t is (Ok u) so =
      subst (λ (c : Content). MayCloseHeld c (held.Slave t) room) (sym is) (t, refl, so)
  may-close t is (Err status) so = tt

-- the slave that is closed is the one that may be
pub closes-held : {old : Option Content} (content : Content) {now : Content} {slave : LendingSlaveState} {before after : AccountRoom}
    → old ≡ Some content → MayCloseHeld content now (length before.lines) → now ≡ held.Slave slave
    → TellsAccount slave before after → ClosesHeld old before after
closes-held {old} (held.Slave s) {now} {slave} {before} {after} is (t, to, (collects, none, room)) same told =
    subst (λ (o : Option Content). ClosesHeld o before after) (sym is)
    (t, collects, none, subst (λ e. TellsAccount e before after) (same-slave (sym same ∙ to)) told)
closes-held (held.Task s) is may same told = elim may [ ]
