use Rattle.std.proofs.Common.{◌<◌, ◌+◌, ◌^◌, ap, arith, ◌∙◌, length, sym, take}
use Rattle.std.proofs.lemmas.List.{length-take}
use Rattle.rtrb.specs.Ring.{known_free, known_items, producer_capacity, received, sent}
use Rattle.byte_ring.specs.Fronts.{part}
use Rattle.byte_ring.specs.Reading.{items_in}
use Rattle.byte_ring.proofs.FrontLemmas.{Left, all_left, has_room}
use Rattle.byte_ring.proofs.byte_take.ByteTakeBeside.beside.Goals as goal

-- what is left once all was looked at
all_left_now : (c : goal.After-self-2-1) → Left (received c.slots_beside-self-2.new.self) (part c.args.self.now.front) (take c.slots_beside-self-2.result (known_items c.slots_beside-self-2.new.self)) (sent c.args.send.now.producer) c.args.send.now.count c.args.self.now.count
all_left_now c =
    let s = c.args.self.now in
    let t = c.slots_beside-self-2.new.self in
    let e = c.slots_beside-self-2.ensures in
    let few : length (part s.front) + length (known_items t) < 2 ^ 64 = omega (arith, length-take s.front.held s.front.bytes, s.front.within, t.counts, t.reads.3) in
    all_left (received s.consumer) (received t) (part s.front) (known_items t) (sent c.args.send.now.producer) c.slots_beside-self-2.result c.args.send.now.count s.count (e.looked.1 ∙ c.slots_beside-self.ensures.consumer.1) s.held e.value (e.fifo ∙ e.producer.1 ∙ c.slots_beside-self.ensures.looked.1) c.args.send.now.counted s.counted few

pub returns-clause-count : goal.returns-clause-count
returns-clause-count c = (all_left_now c).number

-- all that was sent is received, or left
pub returns-clause-left : goal.returns-clause-left
returns-clause-left c = (all_left_now c).left ∙ ap items_in (sym (c.slots_beside-self-2.ensures.producer.1 ∙ c.slots_beside-self.ensures.looked.1))

-- what isn't left in the ring is known to be free
pub returns-clause-roomy : goal.returns-clause-roomy
returns-clause-roomy c =
    let a = c.slots_beside-self.ensures in
    let b = c.slots_beside-self-2.ensures in
    let p = c.slots_beside-self.new.self in
    let t = c.slots_beside-self-2.new.self in
    let left = all_left_now c in
    let room = has_room (received t) (part c.args.self.now.front) (take c.slots_beside-self-2.result (known_items t)) (sent c.args.send.now.producer) (producer_capacity p) (known_free p) left.cells left.held_still c.args.send.now.whole
    (omega (arith, a.all_free, a.value, ap length a.looked.1, ap length b.looked.1)) in
    omega (arith, room, b.producer.2, b.producer.0.1)
