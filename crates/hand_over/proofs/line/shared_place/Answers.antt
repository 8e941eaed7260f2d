use Rattle.hand_over.proofs.PlaceLemmas.{begins}
use Rattle.hand_over.proofs.line.shared_place.Goals as goal

pub ruled-requires-clause-rule : goal.ruled-requires-clause-rule
ruled-requires-clause-rule g c = begins
