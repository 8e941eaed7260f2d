use Rattle.std.proofs.Common.{◌<◌, ◌^◌, ◌∙◌, ap, arith, length, sym}
use Rattle.rtrb.specs.Ring.{all_sent, known_items, received}
use Rattle.frame_ring.specs.Reading.{items_in}
use Rattle.frame_ring.proofs.HeldLemmas.{counts_same, same_records}
use Rattle.frame_ring.proofs.EndLemmas.{left_counted, split_read}
use Rattle.frame_ring.proofs.frame_take.FrameTakeTakeEnd.after.Goals as goal

pub returns-clause-count : goal.returns-clause-count
returns-clause-count c =
    let s = c.args.self.now in
    let now = c.slots_after.new.self in
    let e = c.slots_after.ensures in
    let few : length (known_items now) < 2 ^ 64 = omega (arith, now.counts, now.reads.3) in
    left_counted (received now) (known_items now) (all_sent c.args.end.now.finished) c.args.end.now.count s.count
    (same_records _ _ (sym e.looked.1) s.whole) e.fifo c.args.end.now.counted (counts_same s.count _ _ (sym e.looked.1) s.counted) few

pub returns-clause-left : goal.returns-clause-left
returns-clause-left c =
    let s = c.args.self.now in
    let now = c.slots_after.new.self in
    let e = c.slots_after.ensures in
    sym (split_read (received now) (known_items now) (same_records _ _ (sym e.looked.1) s.whole)) ∙ ap items_in (e.fifo ∙ sym e.finished.1)
