use Rattle.std.proofs.Common.{◌≡◌, ◌+◌, ◌∙◌, ap, arith, length, length-append, sym, take}
use Rattle.std.proofs.lemmas.List.{length-take-le}
use Rattle.rtrb.specs.Ring.{known_items}
use Rattle.byte_ring.specs.Fronts.{part, seen}
use Rattle.byte_ring.specs.Held.{least}
use Rattle.byte_ring.specs.Reading.{items_in}
use Rattle.byte_ring.proofs.HeldLemmas.{no_record, still_part, too_few}
use Rattle.byte_ring.proofs.RecordLemmas.{item_test}
use Rattle.byte_ring.proofs.first_record.step.Goals as goal

-- its record is what is held and the next byte
pub returns-then-least-seen-clause-ready : goal.returns-then-least-seen-clause-ready
returns-then-least-seen-clause-ready c =
    let f = c.see_next-least.new.front in
    let n = c.see_next-least.ensures in
    let e = c.read_item-front.ensures in
    let known = known_items c.args.consumer.now in
    let there : length (take f.ahead known) ≡ f.ahead = length-take-le f.ahead known (omega (arith, n.ahead, c.requires.there)) in
    record {
      there = omega (arith, n.ahead, c.requires.there);
      first = λ is. record {
        item = item_test c.read_item-front.new.item (e.item is);
        inside = omega (arith, there, n.ahead, c.requires.some);
        whole = e.yes is ∙ n.sees;
      };
    }

-- or no record stands there
pub returns-then-least-seen-clause-ends : goal.returns-then-least-seen-clause-ends
returns-then-least-seen-clause-ends c = λ _ not_read.
    let f = c.see_next-least.new.front in
    let n = c.see_next-least.ensures in
    let size : length (take (f.held + 1) f.bytes) ≡ f.held + 1 = length-take-le (f.held + 1) f.bytes (omega (arith, n.long, f.within)) in
    no_record (part f) (take f.ahead (known_items c.args.consumer.now)) (ap items_in n.part ∙ c.requires.none)
    (omega (arith, c.if-least-seen.true, size, n.value, ap length n.sees, ap least n.sees))
    (λ x h is. c.read_item-front.ensures.no not_read x h (is ∙ sym n.sees))

-- the record isn't there whole
pub returns-then-more-front-clause-ends : goal.returns-then-more-front-clause-ends
returns-then-more-front-clause-ends c = λ _ _.
    let f = c.see_next-least.new.front in
    let n = c.see_next-least.ensures in
    let known = known_items c.args.consumer.now in
    let there : length (take f.ahead known) ≡ f.ahead = length-take-le f.ahead known (omega (arith, n.ahead, c.requires.there)) in
    let held : length (part f) ≡ f.held = length-take-le f.held f.bytes (omega (arith, n.long, f.within)) in
    too_few (part f) (take f.ahead known) (ap items_in n.part ∙ c.requires.none)
    (omega (arith, c.if-least-seen.false, c.if-more-front.true, there, held, n.value, ap least n.sees))

-- what was popped is less than the record
pub returns-clause-none : goal.returns-clause-none
returns-clause-none c =
    let f = c.see_next-least.new.front in
    let n = c.see_next-least.ensures in
    let h = c.hold_more.ensures in
    let p = h.pulls in
    let known = known_items c.args.consumer.now in
    let g = c.hold_more.new.front in
    let behind = take g.ahead (known_items c.hold_more.new.consumer) in
    let there : length (take f.ahead known) ≡ f.ahead = length-take-le f.ahead known (omega (arith, n.ahead, c.requires.there)) in
    let left : length behind ≡ g.ahead = length-take-le g.ahead (known_items c.hold_more.new.consumer) h.there in
    let size : length p.got + length behind ≡ length (take f.ahead known) = sym (ap length p.ahead ∙ length-append p.got behind) in
    let held : length (part f) ≡ f.held = length-take-le f.held f.bytes (omega (arith, n.long, f.within)) in
    ap items_in p.held ∙ still_part (part f) p.got behind (ap items_in n.part ∙ c.requires.none)
    (omega (arith, there, left, size, h.ahead, c.if-least-seen.false))
    (omega (arith, there, left, size, h.ahead, held, c.if-least-seen.false, n.value, ap least n.sees, ap (λ l. least (seen (part f) l)) p.ahead))
