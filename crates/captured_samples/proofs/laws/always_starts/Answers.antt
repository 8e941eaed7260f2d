use Rattle.captured_samples.proofs.AlikeLemmas.{always_starts}
use Rattle.captured_samples.proofs.laws.always_starts.Goals as goal

pub returns : goal.returns
returns c = always_starts
