use Rattle.captured_session.proofs.FormLemmas.{order_is_given, order_is_newest}
use Rattle.captured_session.proofs.laws.order_is_newest.Goals as goal

pub returns-clause-newest : goal.returns-clause-newest
returns-clause-newest c = order_is_newest

pub returns-clause-given : goal.returns-clause-given
returns-clause-given c = order_is_given
