use Rattle.captured_samples.proofs.StreamLemmas.{all_came}
use Rattle.captured_samples.proofs.laws.all_came.Goals as goal

pub returns : goal.returns
returns c = all_came
