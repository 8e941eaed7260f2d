use Rattle.std.proofs.Common.{refl}
use Rattle.c_slave.proofs.OnLemmas.{on_slave_seen}
use Rattle.c_slave.proofs.state_calls.tell_state.Goals as goal

-- what holds of the slave holds of the content that it is
pub returns : goal.returns
returns c = on_slave_seen _ _ _ c.in-Slave.is (refl, refl, c.state_of.ensures)
