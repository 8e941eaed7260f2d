use Rattle.captured_session.proofs.ExchangeLemmas.{others_change_nothing}
use Rattle.captured_session.proofs.laws.others_change_nothing.Goals as goal

pub returns : goal.returns
returns c = others_change_nothing
