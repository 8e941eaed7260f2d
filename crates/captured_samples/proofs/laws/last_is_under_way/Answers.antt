use Rattle.captured_samples.proofs.TurnLemmas.{last_is_under_way}
use Rattle.captured_samples.proofs.laws.last_is_under_way.Goals as goal

pub returns : goal.returns
returns c = last_is_under_way
