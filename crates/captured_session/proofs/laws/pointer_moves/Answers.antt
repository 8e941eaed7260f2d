use Rattle.captured_session.proofs.PointerLemmas.{pointer_moves}
use Rattle.captured_session.proofs.laws.pointer_moves.Goals as goal

pub returns : goal.returns
returns c = pointer_moves
