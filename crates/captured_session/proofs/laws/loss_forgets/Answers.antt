use Rattle.captured_session.proofs.LossLemmas.{loss_forgets}
use Rattle.captured_session.proofs.laws.loss_forgets.Goals as goal

pub returns : goal.returns
returns c = loss_forgets
