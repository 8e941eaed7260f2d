use Rattle.std.proofs.Common.{◌≡◌, ◌∙◌, ap, arith, ◌++◌, [], ◌-◌, ◌/◌, append-nil, length}
use Rattle.rtrb.specs.Ring.{known_free, producer_capacity, sent}
use Rattle.channel_ring.specs.Names.{name_of}
use Rattle.frame_ring.specs.Fronts.{AreRecords}
use Rattle.frame_ring.specs.Inner.{held_back}
use Rattle.frame_ring.specs.Reading.{items_in}
use Rattle.frame_ring.proofs.HeldLemmas.{are_none, costs, counts_none, first_state}
use Rattle.frame_ring.proofs.RecordLemmas.{nothing_read}
use Rattle.frame_ring.proofs.frame_send.FrameSend.new.Goals as goal

pub invariant_of-result : goal.invariant_of-result
invariant_of-result c =
    let p = c.args.producer in
    let none : sent p ++ held_back 0 c.args.buffer.items ≡ [] = append-nil (sent p) ∙ c.requires.nothing_pushed in
    let whole : AreRecords (sent p ++ held_back 0 c.args.buffer.items) = are_none _ none in
    record {
      kept = record {
        whole = whole;
        fits = omega arith;
        least = omega (arith, c.requires.least, c.len.ensures);
        long = omega (arith, c.requires.whole, c.len.ensures);
        there = omega arith;
        costs = costs (sent p) c.args.buffer.items 0 whole;
      };
      counted = counts_none _ (ap items_in none ∙ nothing_read);
    }

pub returns : goal.returns
returns c =
    let p = c.args.producer in
    first_state (items_in (sent p ++ [])) (known_free p) (producer_capacity p) ((c.len.result - 8) / 8) ((length c.args.buffer.items - 8) / 8) (name_of p.end)
    (ap items_in (append-nil (sent p) ∙ c.requires.nothing_pushed) ∙ nothing_read) (omega (arith, c.len.ensures))
