use Rattle.std.proofs.Common.{◌∙◌, ◌++◌, ap, sym}
use Rattle.tasks.specs.Inner.{out_of}
use Rattle.tasks.proofs.link.TaskLink.can_start.Goals as goal

pub invariant_of-self : goal.invariant_of-self
invariant_of-self g c =
    c.self.invariant
    ∙ ap (λ xs. out_of c.self.inside.older ++ xs) (sym c.newest_can_start.ensures.out_stays)
