use Rattle.captured_samples.proofs.StreamLemmas.{nothing_missing}
use Rattle.captured_samples.proofs.laws.nothing_missing.Goals as goal

pub returns : goal.returns
returns c = nothing_missing
