use Rattle.std.proofs.Common.{inl}
use Rattle.frame_writer.specs.Writing.{state_of}
use Rattle.frame_writer.proofs.FaultLemmas.{failed_while_open}
use Rattle.transmitter.proofs.PacketLemmas.{breaks_within}
use Rattle.transmitter.proofs.place.ToWriterPlace.lay.Goals as goal

-- the frame writer was open, so that it failed now
pub returns-in-Err-clause-none : goal.returns-in-Err-clause-none
returns-in-Err-clause-none g c = λ _.
    let e = c.in-Err.ensures in
    let old = state_of g.O.Out c.args.writer.now in
    inl (tt, breaks_within old (state_of g.O.Out c.send_all.new.self) c.args.packets.now (e.failed (failed_while_open old.closed c.in-Err.field-0 c.requires.was_open e.closed.0)))
