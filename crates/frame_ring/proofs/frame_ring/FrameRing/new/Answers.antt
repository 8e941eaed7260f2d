use Rattle.std.proofs.Common.{◌∙◌, ap, sym, arith}
use Rattle.rtrb.specs.Ring.{known_items, received}
use Rattle.rtrb.specs.declared.consumer.Consumer.{Consumer}
use Rattle.channel_ring.specs.Names.{name_of}
use Rattle.frame_ring.specs.Ends.{SendState}
use Rattle.frame_ring.specs.Reading.{items_in}
use Rattle.frame_ring.proofs.HeldLemmas.{same_name}
use Rattle.frame_ring.proofs.RecordLemmas.{nothing_read}
use Rattle.frame_ring.proofs.frame_ring.FrameRing.new.Goals as goal

pub returns-clause-ends : goal.returns-clause-ends
returns-clause-ends c =
    let e = c.in-Ok-with_protocol.ensures in
    let p = c.in-Ok-with_protocol.producer in
    let t = c.in-Ok-with_protocol.consumer in
    let s = c.new.ensures in
    record {
      one_ring = ap (λ (state : SendState). state.ring) s ∙ sym (same_name p.end t.end e.pair) ∙ ap (λ (k : Consumer _ _ _). name_of k.end) (sym c.new-2.ensures);
      sent = ap (λ (state : SendState). state.sent) s;
      held = ap (λ (state : SendState). state.held) s;
      free = ap (λ (state : SendState). state.free) s ∙ e.producer.1;
      capacity_is = ap (λ (state : SendState). state.capacity) s ∙ e.producer.2;
      room_is = ap (λ (state : SendState). state.room) s ∙ omega (arith, c.in-Ok.ensures);
      received = ap (λ (k : Consumer _ _ _). items_in (received k)) c.new-2.ensures ∙ ap items_in e.consumer.0 ∙ nothing_read;
      known = ap (λ (k : Consumer _ _ _). items_in (known_items k)) c.new-2.ensures ∙ ap items_in e.consumer.1 ∙ nothing_read;
    }
