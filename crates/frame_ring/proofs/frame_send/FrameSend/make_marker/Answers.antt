use Rattle.std.proofs.Common.{arith, ◌≡◌, ◌∙◌, ap, sym, ◌+◌, ◌*◌, ◌++◌, length, take, subst}
use Rattle.std.proofs.lemmas.List.{with_items_is}
use Rattle.std.specs.Vec.{with_items}
use Rattle.rtrb.specs.Ring.{known_free, sent}
use Rattle.xcp_base.specs.declared.item.Item.{Item}
use Rattle.xcp_base.specs.declared.item.Item.TheVariants.{Marker}
use Rattle.frame_ring.specs.Inner.{IsSend, held_back}
use Rattle.frame_ring.specs.Reading.{items_in}
use Rattle.frame_ring.specs.Records.{bytes_of}
use Rattle.frame_ring.specs.States.{send_state}
use Rattle.frame_ring.proofs.HeldLemmas.{counts_one_more, holds, holds_sent, made_state, marker_bytes, one_block}
use Rattle.frame_ring.proofs.frame_send.FrameSend.make_marker.Goals as goal

pub invariant_of-self : goal.invariant_of-self
invariant_of-self c =
    let x : Item = Marker c.args.marker in
    let s = c.args.self.now in
    let new = c.lay_marker.new.out in
    let items : (with_items s.buffer new).items ≡ new = with_items_is s.buffer new (c.lay_marker.ensures.len ∙ c.deref_mut.ensures.len) in
    let long = c.lay_marker.ensures.len ∙ ap length c.deref_mut.ensures.value in
    let laid = ap (λ n. take (s.held * 8 + n) new) (marker_bytes c.args.marker) ∙ c.lay_marker.ensures.bytes ∙ ap (λ b. take (s.held * 8) b ++ bytes_of x) c.deref_mut.ensures.value in
    record {
      kept =
          subst (λ b. IsSend (sent s.producer) b (s.held + 1) s.room (known_free s.producer)) (sym items)
          (holds x c.lay_marker.ensures.item (sent s.producer) s.buffer.items new s.held 1 s.room (known_free s.producer) s.kept long (sym (one_block c.args.marker))
          c.requires.room (omega (arith, c.requires.free, s.kept.there)) laid);
      counted =
          counts_one_more s.count (items_in (sent s.producer ++ held_back s.held s.buffer.items)) _ x s.counted
          (ap (λ b. items_in (sent s.producer ++ held_back (s.held + 1) b)) items
          ∙ holds_sent x c.lay_marker.ensures.item (sent s.producer) s.buffer.items new s.held 1 s.room (known_free s.producer) s.kept long (sym (one_block c.args.marker)) c.requires.room laid);
    }

pub returns : goal.returns
returns c =
    let x : Item = Marker c.args.marker in
    let s = c.args.self.now in
    let new = c.lay_marker.new.out in
    let items : (with_items s.buffer new).items ≡ new = with_items_is s.buffer new (c.lay_marker.ensures.len ∙ c.deref_mut.ensures.len) in
    let long = c.lay_marker.ensures.len ∙ ap length c.deref_mut.ensures.value in
    made_state (send_state s) _ x 1 _
    (ap (λ b. items_in (sent s.producer ++ held_back (s.held + 1) b)) items
    ∙ holds_sent x c.lay_marker.ensures.item (sent s.producer) s.buffer.items new s.held 1 s.room (known_free s.producer) s.kept long (sym (one_block c.args.marker)) c.requires.room
    (ap (λ n. take (s.held * 8 + n) new) (marker_bytes c.args.marker) ∙ c.lay_marker.ensures.bytes ∙ ap (λ b. take (s.held * 8) b ++ bytes_of x) c.deref_mut.ensures.value))
    (omega (arith, s.kept.there))
