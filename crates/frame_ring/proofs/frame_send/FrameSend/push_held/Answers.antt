use Rattle.std.proofs.Common.{◌≡◌, ◌∙◌, ap, sym, arith, ◌++◌, append-nil, ◌-◌, length}
use Rattle.rtrb.specs.Ring.{known_free, sent}
use Rattle.frame_ring.specs.Fronts.{AreRecords}
use Rattle.frame_ring.specs.Inner.{held_back}
use Rattle.frame_ring.specs.Reading.{items_in}
use Rattle.frame_ring.proofs.HeldLemmas.{costs, counts_same, each_begins, same_name, same_records, same_state}
use Rattle.frame_ring.proofs.frame_send.FrameSend.push_held.Goals as goal

pub first_blocks-blocks-requires : goal.first_blocks-blocks-requires
first_blocks-blocks-requires c = omega (arith, c.args.self.now.kept.fits, c.args.self.now.kept.long, ap length c.deref.ensures.value)

pub push_entire_slice-requires : goal.push_entire_slice-requires
push_entire_slice-requires c =
    let s = c.args.self.now in
    let blocks = c.first_blocks-blocks.result.now in
    let are : blocks ≡ held_back s.held s.buffer.items = c.first_blocks-blocks.ensures.blocks ∙ ap (held_back s.held) c.deref.ensures.value in
    each_begins (sent s.producer) blocks (same_records _ _ (ap (λ b. sent s.producer ++ b) (sym are)) s.kept.whole)

pub invariant_of-self : goal.invariant_of-self
invariant_of-self c =
    let s = c.args.self.now in
    let blocks = c.first_blocks-blocks.result.now in
    let new = c.push_entire_slice.new.self in
    let are : blocks ≡ held_back s.held s.buffer.items = c.first_blocks-blocks.ensures.blocks ∙ ap (held_back s.held) c.deref.ensures.value in
    let now : sent new ++ held_back 0 s.buffer.items ≡ sent s.producer ++ held_back s.held s.buffer.items = append-nil (sent new) ∙ c.in-Ok.ensures.ok.0 ∙ ap (λ b. sent s.producer ++ b) are in
    let whole : AreRecords (sent new ++ held_back 0 s.buffer.items) = same_records _ _ (sym now) s.kept.whole in
    record {
      kept = record {
        whole = whole;
        fits = omega arith;
        least = s.kept.least;
        long = s.kept.long;
        there = omega arith;
        costs = costs (sent new) s.buffer.items 0 whole;
      };
      counted = counts_same s.count _ _ (sym now) s.counted;
    }

pub returns-clause-rest_stays : goal.returns-clause-rest_stays
returns-clause-rest_stays c =
    let s = c.args.self.now in
    let blocks = c.first_blocks-blocks.result.now in
    let new = c.push_entire_slice.new.self in
    let are : blocks ≡ held_back s.held s.buffer.items = c.first_blocks-blocks.ensures.blocks ∙ ap (held_back s.held) c.deref.ensures.value in
    let now : sent new ≡ sent s.producer ++ held_back s.held s.buffer.items = c.in-Ok.ensures.ok.0 ∙ ap (λ b. sent s.producer ++ b) are in
    same_state _ _ 0 (known_free new - 0) _ _ s.room _ _ (ap items_in (append-nil (sent new) ∙ now)) c.in-Ok.ensures.ring.1 (same_name s.producer.end new.end c.in-Ok.ensures.ring.0)
