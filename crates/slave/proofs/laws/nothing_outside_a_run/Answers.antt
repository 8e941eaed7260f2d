use Rattle.slave.proofs.LogLemmas.{nothing_outside}
use Rattle.slave.proofs.laws.nothing_outside_a_run.Goals as goal

-- a list runs by the orders of the newest measurement alone, and only where it runs
pub returns : goal.returns
returns c = nothing_outside
