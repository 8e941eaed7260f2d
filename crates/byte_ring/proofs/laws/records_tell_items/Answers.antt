use Rattle.byte_ring.proofs.RecordLemmas.{records_tell_items}
use Rattle.byte_ring.proofs.laws.records_tell_items.Goals as goal

pub returns : goal.returns
returns c = records_tell_items
