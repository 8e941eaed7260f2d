use Rattle.c_slave.proofs.CloseLemmas.{may-close, stays-held}
use Rattle.c_slave.proofs.closing.may_close_in.Goals as goal

-- what holds of the slave holds of the content that it is
pub returns-in-Slave-clause-ok : goal.returns-in-Slave-clause-ok
returns-in-Slave-clause-ok c = may-close _ _ c.in-Slave.is c.may_close.result c.may_close.ensures.ok

pub returns-in-Slave-clause-err : goal.returns-in-Slave-clause-err
returns-in-Slave-clause-err c = stays-held _ _ c.in-Slave.is c.may_close.result c.may_close.ensures.err
