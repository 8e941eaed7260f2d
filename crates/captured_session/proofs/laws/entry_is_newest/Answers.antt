use Rattle.captured_session.proofs.EntryLemmas.{known_is_written, written_is_known}
use Rattle.captured_session.proofs.laws.entry_is_newest.Goals as goal

pub returns-clause-known : goal.returns-clause-known
returns-clause-known c = known_is_written

pub returns-clause-written : goal.returns-clause-written
returns-clause-written c = written_is_known
