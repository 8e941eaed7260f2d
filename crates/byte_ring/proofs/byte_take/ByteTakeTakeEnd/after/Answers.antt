use Rattle.std.proofs.Common.{◌<◌, ◌+◌, ◌^◌, ap, arith, ◌∙◌, length, sym}
use Rattle.std.proofs.lemmas.List.{length-take}
use Rattle.rtrb.specs.Ring.{all_sent, known_items, received}
use Rattle.byte_ring.specs.Fronts.{part}
use Rattle.byte_ring.specs.Reading.{items_in}
use Rattle.byte_ring.proofs.FrontLemmas.{all_left}
use Rattle.byte_ring.proofs.byte_take.ByteTakeTakeEnd.after.Goals as goal

pub returns-clause-count : goal.returns-clause-count
returns-clause-count c =
    let s = c.args.self.now in
    let t = c.slots_after-self.new.self in
    let e = c.slots_after-self.ensures in
    let few : length (part s.front) + length (known_items t) < 2 ^ 64 = omega (arith, length-take s.front.held s.front.bytes, s.front.within, t.counts, t.reads.3) in
    (all_left (received s.consumer) (received t) (part s.front) (known_items t) (all_sent c.args.end.now.finished) c.slots_after-self.result c.args.end.now.count s.count e.looked.1 s.held e.value e.fifo c.args.end.now.counted s.counted few).number

-- all that was sent is received, or left
pub returns-clause-left : goal.returns-clause-left
returns-clause-left c =
    let s = c.args.self.now in
    let t = c.slots_after-self.new.self in
    let e = c.slots_after-self.ensures in
    let few : length (part s.front) + length (known_items t) < 2 ^ 64 = omega (arith, length-take s.front.held s.front.bytes, s.front.within, t.counts, t.reads.3) in
    (all_left (received s.consumer) (received t) (part s.front) (known_items t) (all_sent c.args.end.now.finished) c.slots_after-self.result c.args.end.now.count s.count e.looked.1 s.held e.value e.fifo c.args.end.now.counted s.counted few).left ∙ ap items_in (sym e.finished.1)
