use Rattle.daq_engine.proofs.finishing.drain_and_close.Goals as goal

-- the ends fit, so that each is of its ring
pub account_after-requires-clause-one_ring : goal.account_after-requires-clause-one_ring
account_after-requires-clause-one_ring g c = c.requires.one_ring c.in-Ok.ensures.fit
