use Rattle.session.proofs.FitLemmas.{replies_fit}
use Rattle.session.proofs.laws.replies_fit.Goals as goal

pub returns : goal.returns
returns c = replies_fit
