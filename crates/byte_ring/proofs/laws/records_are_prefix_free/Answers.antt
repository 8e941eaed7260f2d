use Rattle.byte_ring.proofs.RecordLemmas as lemmas
use Rattle.byte_ring.proofs.laws.records_are_prefix_free.Goals as goal

pub returns : goal.returns
returns c = lemmas.records_are_prefix_free
