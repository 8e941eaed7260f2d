use Rattle.captured_samples.proofs.TurnLemmas.{under_way_is_last}
use Rattle.captured_samples.proofs.laws.under_way_is_last.Goals as goal

pub returns : goal.returns
returns c = under_way_is_last
