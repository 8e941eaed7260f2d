use Rattle.std.proofs.Common.{refl}
use Rattle.c_engine.proofs.opening.opened_as.Goals as goal

-- the engine is the one that was opened
pub returns-in_ok-engine-in-Samples-clause-ok : goal.returns-in_ok-engine-in-Samples-clause-ok
returns-in_ok-engine-in-Samples-clause-ok c = rw c.in-Samples.is (c.in_ok-engine-in-Samples.engine, refl, c.in_ok-engine-in-Samples.ensures.ok)

pub returns-in_ok-engine-in-Bytes-clause-ok : goal.returns-in_ok-engine-in-Bytes-clause-ok
returns-in_ok-engine-in-Bytes-clause-ok c = rw c.in-Bytes.is (c.in_ok-engine-in-Bytes.engine, refl, c.in_ok-engine-in-Bytes.ensures.ok)
