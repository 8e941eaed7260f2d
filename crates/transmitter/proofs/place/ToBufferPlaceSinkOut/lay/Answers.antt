use Rattle.frame_writer.specs.Sinks.{sink_writer}
use Rattle.transmitter.proofs.PacketLemmas.{laid}
use Rattle.transmitter.proofs.place.ToBufferPlaceSinkOut.lay.Goals as goal

pub returns-clause-lays : goal.returns-clause-lays
returns-clause-lays c =
    let e = c.send_within.ensures in
    laid c.send_within.result (sink_writer c.args.writer.now) (sink_writer c.send_within.new.self) c.args.buffer.now c.send_within.new.buffer c.args.at c.args.packets.now e.sent e.frames e.end e.few e.behind e.len
