use Rattle.frame_ring.proofs.RecordLemmas.{records_read}
use Rattle.frame_ring.proofs.laws.items_are_read_off_records.Goals as goal

pub returns : goal.returns
returns c = records_read
