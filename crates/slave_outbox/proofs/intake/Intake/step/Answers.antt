use Rattle.std.proofs.Common.{subst}
use Rattle.frame_ring.specs.States.{take_state}
use Rattle.slave_outbox.specs.Steps.{StepMeans}
use Rattle.slave_outbox.proofs.StepLemmas.{step-means}
use Rattle.slave_outbox.proofs.intake.Intake.step.Goals as goal

-- what is known then came from the look
pub returns : goal.returns
returns c =
    let p = c.args.page.now in
    let q = c.take_head.new.page in
    let step = c.take_head.result in
    record {
      means =
          subst (λ a. StepMeans a c.take_head.new.self p q c.args.measurement c.args.channel c.args.room step) c.self.view_is
          (step-means (record { end = take_state c.self.inside.end; lists = c.self.inside.lists }) c.take_head.new.self
          (take_state c.look.new.self) c.look.ensures.looked
          p q c.args.measurement c.args.channel c.args.room step c.take_head.ensures.means c.take_head.ensures.notes);
    }
