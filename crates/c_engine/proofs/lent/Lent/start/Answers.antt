use Rattle.c_engine.proofs.WayLemmas.{later-start}
use Rattle.c_engine.proofs.lent.Lent.start.Goals as goal

-- it is the same sampler, by one event more or none
pub invariant_of-self : goal.invariant_of-self
invariant_of-self g c = later-start g.R.Send.SendEnd g.R.Send.End.RingEnd _ _ _ _ c.start.result c.start.ensures.ok c.start.ensures.err c.start.ensures.set_up_stays c.self.invariant
