use Rattle.captured_session.proofs.FormLemmas.{stamp_is_given, stamp_is_newest}
use Rattle.captured_session.proofs.laws.stamp_is_newest.Goals as goal

pub returns-clause-newest : goal.returns-clause-newest
returns-clause-newest c = stamp_is_newest

pub returns-clause-given : goal.returns-clause-given
returns-clause-given c = stamp_is_given
