use Rattle.tasks.proofs.WayLemmas.{holds-obeyed}
use Rattle.tasks.proofs.task.Task.obey.Goals as goal

pub invariant_of-self : goal.invariant_of-self
invariant_of-self g c =
    holds-obeyed g.S.SendEnd g.S.End.RingEnd _ _ _ _ c.obey_held.result c.obey_held.ensures
    c.self.invariant
