use Rattle.c_engine.proofs.OpenedLemmas.{in-order, opened-first}
use Rattle.c_engine.proofs.opening.opened.Goals as goal

-- it is opened with these samplers
pub engine_of-requires-clause-opened : goal.engine_of-requires-clause-opened
engine_of-requires-clause-opened g c =
    opened-first g.R.Send.SendEnd g.R.Send.End.RingEnd c.args.store.now c.args.caps.now _ _ _ _ c.in-Ok.ensures.opened.opened c.in-Ok.ensures.opened.paired

-- its samplers are those of all event channels
pub engine_of-requires-clause-in_order : goal.engine_of-requires-clause-in_order
engine_of-requires-clause-in_order g c = in-order _ _ c.in-Ok.ensures.opened.opened.channels
