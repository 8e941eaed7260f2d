use Rattle.c_engine.proofs.WayLemmas.{later-trigger}
use Rattle.c_engine.proofs.lent.Lent.trigger.Goals as goal

-- it is the same sampler, by one event more or none
pub invariant_of-self : goal.invariant_of-self
invariant_of-self g c = later-trigger g.R.Send.SendEnd g.R.Send.End.RingEnd _ _ _ _ _ c.trigger.result c.trigger.ensures.ok c.trigger.ensures.err c.trigger.ensures.set_up_stays c.self.invariant
