use Rattle.tasks.proofs.WayLemmas.{holds-triggered}
use Rattle.tasks.proofs.task.Task.trigger.Goals as goal

pub invariant_of-self : goal.invariant_of-self
invariant_of-self g c =
    holds-triggered g.S.SendEnd g.S.End.RingEnd _ _ _ _ _ _ _ c.trigger_held.result
    c.trigger_held.ensures c.self.invariant
