use Rattle.c_engine.proofs.CloseLemmas.{may-close, may-close-bytes, stays-held, stays-held-bytes}
use Rattle.c_engine.proofs.OnLemmas.{bytes, items}
use Rattle.c_engine.proofs.closing.may_close_in.Goals as goal

-- what holds of the engine holds of the content that it is
pub returns-in-Engine-clause-ok : goal.returns-in-Engine-clause-ok
returns-in-Engine-clause-ok c = may-close items bytes _ _ c.in-Engine.is c.may_close.result c.may_close.ensures.ok

pub returns-in-Engine-clause-err : goal.returns-in-Engine-clause-err
returns-in-Engine-clause-err c = stays-held _ _ c.in-Engine.is c.may_close.result c.may_close.ensures.err

pub returns-in-ByteEngine-clause-ok : goal.returns-in-ByteEngine-clause-ok
returns-in-ByteEngine-clause-ok c =
    may-close-bytes items bytes _ _ c.in-ByteEngine.is c.may_close-in-ByteEngine.result c.may_close-in-ByteEngine.ensures.ok

pub returns-in-ByteEngine-clause-err : goal.returns-in-ByteEngine-clause-err
returns-in-ByteEngine-clause-err c =
    stays-held-bytes _ _ c.in-ByteEngine.is c.may_close-in-ByteEngine.result c.may_close-in-ByteEngine.ensures.err
