use Rattle.slave_channels.proofs.SumLemmas.{add_up}
use Rattle.slave_channels.proofs.laws.totals_add_up.Goals as goal

-- each due sample of each entry was dropped or accepted
pub returns : goal.returns
returns c = add_up
