use Rattle.std.proofs.Common.{◌≡◌, ◌+◌, length, ap, arith, sym, ◌∙◌}
use Rattle.std.proofs.lemmas.List.{length-append}
use Rattle.rtrb.specs.Ring.{sent, received, known_items}
use Rattle.channel_ring.specs.Room.{units-ones}
use Rattle.channel_ring.proofs.sample_ring.TakeHalfBeside.beside.Goals as goal

-- what isn't left in the ring is known to be free
pub returns-clause-roomy : goal.returns-clause-roomy
returns-clause-roomy c =
    let a = c.slots_beside.ensures in
    let b = c.slots_beside-2.ensures in
    let now = c.slots_beside-2.new.self in
    let all : length (received now) + length (known_items now) ≡ length (sent c.slots_beside-2.new.producer) = sym (length-append (received now) (known_items now)) ∙ ap length b.fifo in
    omega (arith, units-ones (known_items now), all, a.all_free, a.value, ap length b.producer.1, b.producer.2, b.producer.0.1, ap length b.looked.1)
