use Rattle.std.proofs.Common.{◌≡◌, ◌<◌, ◌^◌, ◌∙◌, ap, arith, length, sym, ◌++◌, append-nil}
use Rattle.std.proofs.lemmas.List.{length-append}
use Rattle.rtrb.specs.Ring.{known_items, received, sent}
use Rattle.frame_ring.specs.Ends.{SendState}
use Rattle.frame_ring.specs.Fronts.{AreRecords}
use Rattle.frame_ring.specs.Inner.{held_back}
use Rattle.frame_ring.specs.Reading.{items_in}
use Rattle.frame_ring.proofs.HeldLemmas.{counts_same, same_records}
use Rattle.frame_ring.proofs.EndLemmas.{left_cost, left_counted, split_read}
use Rattle.frame_ring.proofs.frame_take.FrameTakeBeside.beside.Goals as goal
use Rattle.frame_ring.proofs.frame_take.FrameTakeBeside.beside.Goals.{After-slots_beside-2}

-- all that was sent is published
all_pushed : (c : After-slots_beside-2) → sent c.slots_beside-2.new.producer ≡ sent c.push_held.new.self.producer ++ held_back c.push_held.new.self.held c.push_held.new.self.buffer.items
all_pushed c =
    let s = c.push_held.new.self in
    let none : s.held ≡ 0 = ap (λ (state : SendState). state.held) c.push_held.ensures.rest_stays in
    c.slots_beside-2.ensures.producer.1 ∙ c.slots_beside.ensures.looked.1 ∙ sym (append-nil (sent s.producer)) ∙ ap (λ n. sent s.producer ++ held_back n s.buffer.items) (sym none)

same_taken : (c : After-slots_beside-2) → received c.slots_beside-2.new.self ≡ received c.args.self.now.consumer
same_taken c = c.slots_beside-2.ensures.looked.1 ∙ c.slots_beside.ensures.consumer.1

pub returns-clause-count : goal.returns-clause-count
returns-clause-count c =
    let s = c.args.self.now in
    let now = c.slots_beside-2.new.self in
    let e = c.slots_beside-2.ensures in
    let send = c.push_held.new.self in
    let few : length (known_items now) < 2 ^ 64 = omega (arith, now.counts, now.reads.3) in
    left_counted (received now) (known_items now) (sent c.slots_beside-2.new.producer) send.count s.count
    (same_records _ _ (sym (same_taken (goal.at.returns-clause-count c).After-slots_beside-2)) s.whole) e.fifo (counts_same send.count _ _ (sym (all_pushed (goal.at.returns-clause-count c).After-slots_beside-2)) send.counted) (counts_same s.count _ _ (sym (same_taken (goal.at.returns-clause-count c).After-slots_beside-2)) s.counted) few

pub returns-clause-left : goal.returns-clause-left
returns-clause-left c =
    let s = c.args.self.now in
    let now = c.slots_beside-2.new.self in
    let e = c.slots_beside-2.ensures in
    let send = c.push_held.new.self in
    let none : send.held ≡ 0 = ap (λ (state : SendState). state.held) c.push_held.ensures.rest_stays in
    sym (split_read (received now) (known_items now) (same_records _ _ (sym (same_taken (goal.at.returns-clause-left c).After-slots_beside-2)) s.whole))
    ∙ ap items_in (e.fifo ∙ sym (append-nil (sent c.slots_beside-2.new.producer)) ∙ ap (λ n. sent c.slots_beside-2.new.producer ++ held_back n send.buffer.items) (sym none))

pub returns-clause-roomy : goal.returns-clause-roomy
returns-clause-roomy c =
    let s = c.args.self.now in
    let now = c.slots_beside-2.new.self in
    let e = c.slots_beside-2.ensures in
    let a = c.slots_beside.ensures in
    let send = c.push_held.new.self in
    let none : send.held ≡ 0 = ap (λ (state : SendState). state.held) c.push_held.ensures.rest_stays in
    let taken = same_taken (goal.at.returns-clause-roomy c).After-slots_beside-2 in
    let all : AreRecords (sent c.slots_beside-2.new.producer) = same_records _ _ (sym (all_pushed (goal.at.returns-clause-roomy c).After-slots_beside-2)) send.kept.whole in
    let cost = left_cost (received now) (known_items now) (sent c.slots_beside-2.new.producer) (same_records _ _ (sym taken) s.whole) all e.fifo in
    omega (arith, cost, none, length-append (received now) (known_items now), ap length taken, a.all_free, a.value, ap length a.looked.1, ap length e.looked.1, ap length e.fifo, ap length e.producer.1, e.producer.2, e.producer.0.1)
