use Rattle.std.proofs.Common.{arith, ◌≡◌, ◌∙◌, ap, sym, ◌+◌, ◌*◌, ◌++◌, length, take, subst}
use Rattle.std.proofs.lemmas.List.{with_items_is}
use Rattle.std.specs.Vec.{with_items}
use Rattle.rtrb.specs.Ring.{known_free, sent}
use Rattle.channel_ring.specs.Ends.{sample_item}
use Rattle.frame_ring.specs.Inner.{IsSend, held_back}
use Rattle.frame_ring.specs.Reading.{items_in}
use Rattle.frame_ring.specs.Records.{bytes_of}
use Rattle.frame_ring.specs.States.{send_state}
use Rattle.frame_ring.proofs.HeldLemmas.{bytes_cost, counts_one_more, holds, holds_sent, made_state}
use Rattle.frame_ring.proofs.frame_send.FrameSend.make.Goals as goal

pub lay_sample-requires : goal.lay_sample-requires
lay_sample-requires g c =
    let x = sample_item c.args.channel c.args.list c.args.number (g.M.SampleMaker.packets c.args.maker.now) in
    record { room = omega (arith, c.requires.cost, bytes_cost x, c.requires.room, c.args.self.now.kept.long, ap length c.deref_mut.ensures.value) }

pub invariant_of-self : goal.invariant_of-self
invariant_of-self g c =
    let x = sample_item c.args.channel c.args.list c.args.number (g.M.SampleMaker.packets c.args.maker.now) in
    let s = c.args.self.now in
    let new = c.lay_sample.new.out in
    let items : (with_items s.buffer new).items ≡ new = with_items_is s.buffer new (c.lay_sample.ensures.len ∙ c.deref_mut.ensures.len) in
    let long = c.lay_sample.ensures.len ∙ ap length c.deref_mut.ensures.value in
    let laid = c.lay_sample.ensures.bytes ∙ ap (λ b. take (s.held * 8) b ++ bytes_of x) c.deref_mut.ensures.value in
    record {
      kept =
          subst (λ b. IsSend (sent s.producer) b (s.held + c.args.blocks) s.room (known_free s.producer)) (sym items)
          (holds x c.lay_sample.ensures.item (sent s.producer) s.buffer.items new s.held c.args.blocks s.room (known_free s.producer) s.kept long c.requires.cost
          c.requires.room (omega (arith, c.requires.free, s.kept.there)) laid);
      counted =
          counts_one_more s.count (items_in (sent s.producer ++ held_back s.held s.buffer.items)) _ x s.counted
          (ap (λ b. items_in (sent s.producer ++ held_back (s.held + c.args.blocks) b)) items
          ∙ holds_sent x c.lay_sample.ensures.item (sent s.producer) s.buffer.items new s.held c.args.blocks s.room (known_free s.producer) s.kept long c.requires.cost c.requires.room laid);
    }

pub returns : goal.returns
returns g c =
    let x = sample_item c.args.channel c.args.list c.args.number (g.M.SampleMaker.packets c.args.maker.now) in
    let s = c.args.self.now in
    let new = c.lay_sample.new.out in
    let items : (with_items s.buffer new).items ≡ new = with_items_is s.buffer new (c.lay_sample.ensures.len ∙ c.deref_mut.ensures.len) in
    let long = c.lay_sample.ensures.len ∙ ap length c.deref_mut.ensures.value in
    made_state (send_state s) _ x c.args.blocks _
    (ap (λ b. items_in (sent s.producer ++ held_back (s.held + c.args.blocks) b)) items
    ∙ holds_sent x c.lay_sample.ensures.item (sent s.producer) s.buffer.items new s.held c.args.blocks s.room (known_free s.producer) s.kept long c.requires.cost c.requires.room
    (c.lay_sample.ensures.bytes ∙ ap (λ b. take (s.held * 8) b ++ bytes_of x) c.deref_mut.ensures.value))
    (omega (arith, s.kept.there))
