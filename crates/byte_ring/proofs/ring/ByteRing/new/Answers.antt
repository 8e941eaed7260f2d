use Rattle.std.proofs.Common.{ap, ◌∙◌}
use Rattle.rtrb.specs.Ring.{known_items, received, sent}
use Rattle.byte_ring.specs.Fronts.{part}
use Rattle.byte_ring.proofs.FrontLemmas.{nothing_known, reads_none}
use Rattle.byte_ring.proofs.ring.ByteRing.new.Goals as goal

-- nothing was sent
pub returns-in-Ok-clause-sent : goal.returns-in-Ok-clause-sent
returns-in-Ok-clause-sent c = reads_none (sent c.new-in-Ok.result.producer) (ap (λ p. sent p) c.new-in-Ok.ensures ∙ c.in-Ok.ensures.producer.0)

-- nothing was popped
pub returns-in-Ok-clause-received : goal.returns-in-Ok-clause-received
returns-in-Ok-clause-received c =
    let t = c.new-in-Ok-2.result in
    reads_none (received t.consumer) (ap (λ k. received k) c.new-in-Ok-2.ensures.ring ∙ c.in-Ok.ensures.consumer.0)

-- and nothing is known
pub returns-in-Ok-clause-known : goal.returns-in-Ok-clause-known
returns-in-Ok-clause-known c =
    let t = c.new-in-Ok-2.result in
    nothing_known (part t.front) (known_items t.consumer) t.front.ahead c.new-in-Ok-2.ensures.front c.new-in-Ok-2.ensures.ahead
