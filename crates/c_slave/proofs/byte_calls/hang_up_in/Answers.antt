use Rattle.std.proofs.Common.{refl}
use Rattle.c_slave.proofs.OnLemmas.{on_slave}
use Rattle.c_slave.proofs.byte_calls.hang_up_in.Goals as goal

-- what holds of the slave holds of the content that it is
pub returns : goal.returns
returns c = on_slave _ _ _ c.in-Slave.is (refl, c.hang_up.ensures)
