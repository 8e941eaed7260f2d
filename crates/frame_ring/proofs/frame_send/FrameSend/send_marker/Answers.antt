use Rattle.std.proofs.Common.{arith, ap, ◌∙◌, ◌++◌, ◌∷◌, []}
use Rattle.xcp_base.specs.declared.item.Item.TheVariants.{Marker}
use Rattle.frame_ring.specs.Ends.{SendState}
use Rattle.frame_ring.proofs.HeldLemmas.{one_block}
use Rattle.frame_ring.proofs.frame_send.FrameSend.send_marker.Goals as goal

pub returns-then-not-find_room-clause-drops : goal.returns-then-not-find_room-clause-drops
returns-then-not-find_room-clause-drops c = λ _.
    record {
      rest = c.find_room.ensures.looked.rest;
      grows = c.find_room.ensures.looked.grows;
      short = omega (arith, c.find_room.ensures.no c.if-not-find_room.true, one_block c.args.marker);
    }

pub returns-clause-sends : goal.returns-clause-sends
returns-clause-sends c = λ _.
    let now = c.make_marker.ensures in
    record {
      sent = ap (λ (s : SendState). s.sent) now ∙ ap (λ (s : SendState). s.sent ++ Marker c.args.marker ∷ []) (c.make_room.ensures.rest_stays) ∙ ap (λ (s : SendState). s.sent ++ Marker c.args.marker ∷ []) c.find_room.ensures.looked.rest;
      spent = omega (arith, ap (λ (s : SendState). s.free) now, c.make_room.ensures.grows, c.find_room.ensures.looked.grows, one_block c.args.marker);
    }
