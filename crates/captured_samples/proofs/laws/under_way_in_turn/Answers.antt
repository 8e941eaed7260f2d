use Rattle.captured_samples.proofs.TurnLemmas.{under_way_in_turn}
use Rattle.captured_samples.proofs.laws.under_way_in_turn.Goals as goal

pub returns : goal.returns
returns c = under_way_in_turn
