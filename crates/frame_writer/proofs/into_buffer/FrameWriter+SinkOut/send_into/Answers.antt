use Rattle.std.proofs.Common.{arith}
use Rattle.frame_writer.proofs.LayoutLemmas.{length-text}
use Rattle.frame_writer.proofs.into_buffer.FrameWriter+SinkOut.send_into.Goals as goal

-- it has as many bytes as the frames
pub returns-clause-end : goal.returns-clause-end
returns-clause-end c = omega (arith, c.lay_out.ensures.end, length-text c.args.self.now.counter c.args.packets.now)
