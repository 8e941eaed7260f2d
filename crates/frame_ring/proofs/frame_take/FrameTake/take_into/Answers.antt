use Rattle.std.proofs.Common.{length}
use Rattle.frame_ring.specs.Reading.{items_in}
use Rattle.rtrb.specs.Ring.{known_items, received}
use Rattle.std.proofs.Common.{◌∙◌, drop, take}
use Rattle.frame_ring.proofs.EndLemmas.{are_there, took}
use Rattle.frame_ring.proofs.HeldLemmas.{counts_one_more}
use Rattle.frame_ring.proofs.frame_take.FrameTake.take_into.Goals as goal

pub pop_into-page-requires : goal.pop_into-page-requires
pop_into-page-requires c = record { there = are_there (known_items c.args.self.now.consumer) c.args.blocks c.requires.some c.requires.size; room = c.requires.room }

pub invariant_of-self : goal.invariant_of-self
invariant_of-self c =
    let s = c.args.self.now in
    let p = c.pop_into-page.ensures.pops in
    let popped = take c.args.blocks (drop c.args.at c.pop_into-page.result.items) in
    let t = took s.consumer c.pop_into-page.new.consumer popped s.whole c.requires.some (p.many ∙ c.requires.size) p.popped p.known p.allowed p.ring.0 in
    record {
      whole = t.whole;
      counted = counts_one_more s.count (items_in (received s.consumer)) _ t.takes.item s.counted t.takes.received;
    }

pub returns : goal.returns
returns c =
    let s = c.args.self.now in
    let p = c.pop_into-page.ensures.pops in
    let popped = take c.args.blocks (drop c.args.at c.pop_into-page.result.items) in
    record {
      takes = (took s.consumer c.pop_into-page.new.consumer popped s.whole c.requires.some (p.many ∙ c.requires.size) p.popped p.known p.allowed p.ring.0).takes;
      front = p.front;
      behind = p.behind;
      len = p.len;
    }
