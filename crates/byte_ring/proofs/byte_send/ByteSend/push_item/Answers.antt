use Rattle.std.proofs.Common.{ap, ◌∙◌, ◌++◌, take}
use Rattle.rtrb.specs.Ring.{sent}
use Rattle.byte_ring.specs.Reading.{items_in}
use Rattle.byte_ring.proofs.FrontLemmas.{pushed}
use Rattle.byte_ring.proofs.RecordLemmas.{items_in-push}
use Rattle.byte_ring.proofs.byte_send.ByteSend.push_item.Goals as goal

-- one record more, whole, or none
pub invariant_of-self : goal.invariant_of-self
invariant_of-self c =
    let s = c.args.self.now in
    let e = c.push_whole.ensures in
    let item = c.args.item.now in
    let p = pushed c.push_whole.result (sent s.producer) (sent c.push_whole.new.producer) (take c.write_record-len.result c.write_record-len.new.out) item s.count c.push_whole.new.count c.write_record-len.ensures.item (c.write_record-len.ensures.bytes) s.whole s.counted e.sends e.sent_stays e.counts e.count_stays in
    record { whole = p.whole; counted = p.counted }

pub returns-clause-sends : goal.returns-clause-sends
returns-clause-sends c = λ is_sent.
    let s = c.args.self.now in
    let item = c.args.item.now in
    ap items_in (c.push_whole.ensures.sends is_sent ∙ ap (λ l. sent s.producer ++ l) (c.write_record-len.ensures.bytes)) ∙ items_in-push (sent s.producer) item c.write_record-len.ensures.item s.whole
