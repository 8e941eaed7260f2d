use Rattle.std.proofs.Common.{refl, arith}
use Rattle.frame_writer.specs.Frame.{frame}
use Rattle.frame_writer.proofs.LayoutLemmas.{written_part}
use Rattle.frame_writer.proofs.into_buffer.FrameWriter+SinkOut.send_one_into.Goals as goal

-- the writer is told what was laid out, and that is the frame
pub returns-clause-sent : goal.returns-clause-sent
returns-clause-sent c =
    let place = c.place_frame-end.ensures in
    let told = frame c.args.self.now.counter c.args.packet.now in
    let part = written_part c.args.at c.place_frame-end.result c.place_frame-end.new.room c.args.buffer.now told (omega (arith, c.requires.room)) (omega (arith, place.end)) place.frame in
    rw (c.note.ensures, part) refl
