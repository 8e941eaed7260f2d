use Rattle.std.proofs.Common.{◌≡◌, ◌∙◌, sym, subst}
use Rattle.copy_plan.specs.Config.{IsPlan, ListPlan}
use Rattle.copy_plan.specs.Frames.{frames_len}
use Rattle.copy_plan.proofs.FrameLemmas.{frames_long}
use Rattle.copy_plan.proofs.plan.CopyPlan.frames_len.Goals as goal

pub returns-clause-law : goal.returns-clause-law
returns-clause-law c = λ image stamp overload fit.
    let is : IsPlan c.args.self.now = subst IsPlan c.self.view_is c.self.invariant.plan in
    let len : c.self.inside.frames_len ≡ frames_len c.args.self.now = subst (λ (plan : ListPlan). c.self.inside.frames_len ≡ frames_len plan) c.self.view_is c.self.invariant.frames in
    len ∙ sym (frames_long c.args.self.now image stamp overload fit is)
