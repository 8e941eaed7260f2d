use Rattle.slave_outbox.proofs.StopLemmas.{nothing_behind}
use Rattle.slave_outbox.proofs.laws.nothing_behind_a_stop.Goals as goal

-- a list that was stopped and not started since doesn't run
pub returns : goal.returns
returns c = nothing_behind
