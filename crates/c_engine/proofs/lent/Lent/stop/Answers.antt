use Rattle.c_engine.proofs.WayLemmas.{later-stop}
use Rattle.c_engine.proofs.lent.Lent.stop.Goals as goal

-- it is the same sampler, by one event more or none
pub invariant_of-self : goal.invariant_of-self
invariant_of-self g c = later-stop g.R.Send.SendEnd g.R.Send.End.RingEnd _ _ _ _ c.stop.result c.stop.ensures.ok c.stop.ensures.err c.stop.ensures.set_up_stays c.self.invariant
