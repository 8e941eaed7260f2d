use Rattle.std.proofs.Common.{refl, ap, ◌∙◌, subst, sym}
use Rattle.std.specs.Prelude.{Some}
use Rattle.frame_ring.specs.States.{take_state}
use Rattle.slave_outbox.specs.Deeds.{Stopped}
use Rattle.slave_outbox.specs.IntakeInner.{stopped}
use Rattle.slave_outbox.specs.Intakes.{GoesOn}
use Rattle.slave_outbox.proofs.DeedLemmas.{goes_on-stop, same_some}
use Rattle.slave_outbox.proofs.intake.Intake.stop.Goals as goal

-- this is noted of the list, and nothing of any other
pub returns-clause-goes_on : goal.returns-clause-goes_on
returns-clause-goes_on c =
    subst (λ a. GoesOn a (record { end = take_state c.self.inside.end; lists = c.set.new.self }) (Stopped c.args.l)) c.self.view_is
    (goes_on-stop (record { end = take_state c.self.inside.end; lists = c.self.inside.lists }) (record { end = take_state c.self.inside.end; lists = c.set.new.self }) c.args.l
    (record {
      here = λ x found. c.set.ensures.here ∙ ap Some (c.stopped-kept.ensures ∙ ap stopped (same_some _ _ (sym c.get.ensures ∙ found)));
      others = c.set.ensures.others;
    })
    refl)
