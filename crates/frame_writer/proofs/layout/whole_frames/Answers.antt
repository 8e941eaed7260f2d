use Rattle.std.proofs.Common.{[], ◌∷◌, arith, length-append}
use Rattle.frame_writer.proofs.LayoutLemmas.{given-next, text_len-given}
use Rattle.frame_writer.proofs.layout.whole_frames.Goals as goal

-- one frame more is whole
pub loop-packet-preserved : goal.loop-packet-preserved
loop-packet-preserved c =
    let before = c.loop-packet.invariant in
    let given = c.loop-packet.yielded in
    let q = c.in-Some.packet in
    record {
      can = tt;
      ends = tt;
      packets = given-next given q c.loop-packet.packet-iterator c.next.new.self c.args.packets.now before.packets c.in-Some.ensures.steps;
      count = omega (arith, before.count, length-append given (q ∷ []));
      left = omega (arith, before.left, text_len-given given q, c.if-left-len.false);
    }
