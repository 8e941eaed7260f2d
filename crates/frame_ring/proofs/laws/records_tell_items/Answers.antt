use Rattle.frame_ring.proofs.RecordLemmas.{tell_items}
use Rattle.frame_ring.proofs.laws.records_tell_items.Goals as goal

pub returns : goal.returns
returns c = tell_items
