use Rattle.std.proofs.Common.{refl, arith}
use Rattle.frame_writer.specs.Frame.{text}
use Rattle.frame_writer.proofs.LayoutLemmas.{written_part}
use Rattle.frame_writer.proofs.into_buffer.FrameWriter+SinkOut.lay_out.Goals as goal

-- the writer is told what was laid out, and that is the text
pub returns-clause-sent : goal.returns-clause-sent
returns-clause-sent c =
    let place = c.place_text-end.ensures in
    let told = text c.args.self.now.counter c.args.packets.now in
    let part = written_part c.args.at c.place_text-end.result c.place_text-end.new.room c.args.buffer.now told (omega (arith, c.requires.room)) (omega (arith, place.end)) place.text in
    rw (c.len.ensures.value, c.note.ensures, part) refl
