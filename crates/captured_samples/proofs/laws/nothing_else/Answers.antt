use Rattle.captured_samples.proofs.StreamLemmas.{nothing_else}
use Rattle.captured_samples.proofs.laws.nothing_else.Goals as goal

pub returns : goal.returns
returns c = nothing_else
