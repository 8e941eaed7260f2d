use Rattle.captured_samples.proofs.LossLemmas.{jump_forgets}
use Rattle.captured_samples.proofs.laws.jump_forgets.Goals as goal

pub returns : goal.returns
returns c = jump_forgets
