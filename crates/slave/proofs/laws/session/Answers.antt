use Rattle.slave.proofs.SessionLemmas.{session-law}
use Rattle.slave.proofs.laws.session.Goals as goal

-- act by act, and what came back says what was sent
pub returns : goal.returns
returns c = session-law
