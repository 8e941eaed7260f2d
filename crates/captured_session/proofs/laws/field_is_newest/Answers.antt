use Rattle.captured_session.proofs.FormLemmas.{field_is_given, field_is_newest}
use Rattle.captured_session.proofs.laws.field_is_newest.Goals as goal

pub returns-clause-newest : goal.returns-clause-newest
returns-clause-newest c = field_is_newest

pub returns-clause-given : goal.returns-clause-given
returns-clause-given c = field_is_given
