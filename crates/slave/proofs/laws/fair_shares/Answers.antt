use Rattle.slave.proofs.TurnLemmas.{fair-shares}
use Rattle.slave.proofs.laws.fair_shares.Goals as goal

-- by the turns of both
pub returns : goal.returns
returns c = fair-shares
