use Rattle.captured_session.proofs.SetUpLemmas.{refused_changes_nothing}
use Rattle.captured_session.proofs.laws.refused_changes_nothing.Goals as goal

pub returns : goal.returns
returns c = refused_changes_nothing
