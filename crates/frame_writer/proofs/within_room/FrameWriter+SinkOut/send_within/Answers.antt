use Rattle.std.proofs.Common.{arith}
use Rattle.frame_writer.proofs.LayoutLemmas.{length-text}
use Rattle.frame_writer.proofs.within_room.FrameWriter+SinkOut.send_within.Goals as goal

-- the frames have as many bytes as were counted
pub returns-then-buffer-at-clause-too_long : goal.returns-then-buffer-at-clause-too_long
returns-then-buffer-at-clause-too_long c = λ _.
    omega (arith, c.if-buffer-at.true, c.text_len.ensures.value, c.requires.inside, length-text c.args.self.now.counter c.args.packets.now)

pub returns-clause-end : goal.returns-clause-end
returns-clause-end c = omega (arith, c.lay_out.ensures.end, length-text c.args.self.now.counter c.args.packets.now)
