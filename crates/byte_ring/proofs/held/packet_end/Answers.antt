use Rattle.byte_ring.proofs.HeldLemmas.{least_body-past, least_body-there}
use Rattle.byte_ring.proofs.held.packet_end.Goals as goal

pub returns-then-start-bytes-clause-more : goal.returns-then-start-bytes-clause-more
returns-then-start-bytes-clause-more c = λ n. least_body-there n c.args.start c.args.bytes.now c.if-start-bytes.true

pub returns-else-start-bytes-clause-more : goal.returns-else-start-bytes-clause-more
returns-else-start-bytes-clause-more c = λ n. least_body-past n c.args.start c.args.bytes.now c.if-start-bytes.false
