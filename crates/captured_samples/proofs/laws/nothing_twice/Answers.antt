use Rattle.captured_samples.proofs.StreamLemmas.{nothing_twice}
use Rattle.captured_samples.proofs.laws.nothing_twice.Goals as goal

pub returns : goal.returns
returns c = nothing_twice
