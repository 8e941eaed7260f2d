use Rattle.std.proofs.Common.{◌≡◌, ◌+◌, ◌++◌, [], ◌∷◌, List, ℕ, length, sym, ap, ◌∙◌, append_assoc, arith, length-append, take}
use Rattle.frame_writer.specs.Frame.{frame, text}
use Rattle.frame_writer.specs.Inner.{text_len}
use Rattle.frame_writer.proofs.LayoutLemmas.{behind-next, given-next, packets_given, text-given, text_len-given, text_len-parts}
use Rattle.frame_writer.proofs.layout.place_text.Goals as goal

-- this frame is one of those that have room
pub place_frame-end-requires-clause-room : goal.place_frame-end-requires-clause-room
place_frame-end-requires-clause-room c =
    let before = c.loop-packet.invariant in
    let done = packets_given c.loop-packet.yielded in
    let all : c.args.packets.now ≡ done ++ c.in-Some.packet.now ∷ c.next.new.self = sym before.packets ∙ ap (λ qs. done ++ qs) c.in-Some.ensures.steps in
    omega (arith, text_len-parts done c.next.new.self c.in-Some.packet.now, ap text_len all, before.end, before.len, c.requires.room)

-- one frame more stands behind those before
pub loop-packet-preserved : goal.loop-packet-preserved
loop-packet-preserved c =
    let before = c.loop-packet.invariant in
    let given = c.loop-packet.yielded in
    let q = c.in-Some.packet in
    let last : List ℕ = frame c.loop-packet.next q.now in
    let front : List ℕ = take c.args.at c.args.room.now in
    record {
      can = tt;
      ends = tt;
      packets = given-next given q c.loop-packet.packet-iterator c.next.new.self c.args.packets.now before.packets c.in-Some.ensures.steps;
      text = c.place_frame-end.ensures.frame ∙ ap (λ t. t ++ last) before.text ∙ append_assoc front (text c.args.counter (packets_given given)) last
          ∙ ap (λ t. front ++ t) (sym (text-given c.args.counter c.loop-packet.next given q before.next));
      end = omega (arith, c.place_frame-end.ensures.end, before.end, text_len-given given q);
      behind = behind-next (4 + length q.now) c.loop-packet.end c.place_frame-end.result c.args.room.now c.loop-packet.room c.place_frame-end.new.room c.place_frame-end.ensures.behind (omega (arith, c.place_frame-end.ensures.end)) before.behind;
      len = c.place_frame-end.ensures.len ∙ before.len;
      next = omega (arith, before.next, length-append given (q ∷ []));
    }
