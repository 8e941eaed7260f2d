use Rattle.frame_ring.proofs.RecordLemmas.{prefix_free}
use Rattle.frame_ring.proofs.laws.records_are_prefix_free.Goals as goal

pub returns : goal.returns
returns c = prefix_free
