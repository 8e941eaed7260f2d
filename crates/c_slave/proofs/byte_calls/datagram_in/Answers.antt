use Rattle.c_slave.proofs.OnLemmas.{on_slave}
use Rattle.c_slave.proofs.byte_calls.datagram_in.Goals as goal

-- what holds of the slave holds of the content that it is
pub returns-in-Slave : goal.returns-in-Slave
returns-in-Slave c = on_slave _ _ _ c.in-Slave.is c.hear.ensures
