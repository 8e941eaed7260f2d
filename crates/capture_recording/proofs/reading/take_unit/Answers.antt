use Rattle.std.proofs.Common.{◌++◌, ◌∷◌, [], List, ℕ, drop, refl, reverse, subst, sym, take}
use Rattle.std.proofs.lemmas.List.{append-nil, reverse-append, take-append-drop}
use Rattle.capture.specs.Packets.{PacketOf, packet_of}
use Rattle.capture.specs.Standing.{StandsAfter, given_by, taken_by}
use Rattle.capture.specs.declared.step.Step.{Step}
use Rattle.capture_recording.specs.Refusals.{OrMemory, RefusesPacket, RefusesUnits, StopsAt, StopsWithin, fault_of_capture}
use Rattle.capture_recording.specs.Slaves.{AllTaken}
use Rattle.capture_recording.specs.declared.capture_read_fault.CaptureReadFault.{CaptureReadFault}
use Rattle.capture_recording.proofs.RefusalLemmas.{or-memory, stops-format, stops-packet}
use Rattle.capture_recording.proofs.ResultLemmas.{handed-on}
use Rattle.capture_recording.proofs.reading.take_unit.Goals as goal

pub returns-in_err-take-in-Ok-Packet-clause-err : goal.returns-in_err-take-in-Ok-Packet-clause-err
returns-in_err-take-in-Ok-Packet-clause-err g c =
    let fault = c.in_err-take-in-Ok-Packet.field-0.0 in
    let slaves = c.args.slaves.now in
    let n = c.in-Ok-Packet.len in
    let bytes = c.args.bytes.now in
    let p = packet_of c.in-Ok-Packet.captured in
    handed-on c.from_residual.result
    (RefusesUnits g.K.Sink.SampleSink.told g.K.Sinks.reads c.args.reader.now slaves c.take.new.self bytes) fault
    c.from_residual.ensures.1
    (λ first before packets stands taken.
    or-memory (RefusesPacket (g.K.Sinks.reads first) slaves.form slaves.port (p ∷ reverse packets))
    (StopsWithin (AllTaken g.K.Sink.SampleSink.told g.K.Sinks.reads first) (g.K.Sinks.reads first) slaves.form slaves.port before bytes
    c.take.new.self)
    fault
    (λ r. (
      take n bytes,
      drop n bytes,
      sym (take-append-drop n bytes),
      stops-packet (AllTaken g.K.Sink.SampleSink.told g.K.Sinks.reads first) (g.K.Sinks.reads first) slaves.form slaves.port
          (before ++ take n bytes) (drop n bytes) c.take.new.self c.next.new.self (packets ++ p ∷ []) fault
          (subst (λ (step : Step). StandsAfter c.next.new.self (before ++ taken_by step bytes) (packets ++ given_by step)) c.in-Ok-Packet.field-0-is
          (c.in-Ok-Packet.ensures.leads before packets stands))
          (subst (λ (ps : List PacketOf). RefusesPacket (g.K.Sinks.reads first) slaves.form slaves.port ps fault)
          (sym (reverse-append packets (p ∷ []))) r),
    ))
    (c.in_err-take-in-Ok-Packet.ensures.err first (reverse packets) taken))

pub returns-in-Err-clause-err : goal.returns-in-Err-clause-err
returns-in-Err-clause-err g c first before packets stands taken =
    let slaves = c.args.slaves.now in
    let fault : CaptureReadFault = fault_of_capture c.in-Err.fault in
    subst
    (OrMemory
    (StopsWithin (AllTaken g.K.Sink.SampleSink.told g.K.Sinks.reads first) (g.K.Sinks.reads first) slaves.form slaves.port before
    c.args.bytes.now slaves))
    (sym c.of_capture.ensures)
    (or-memory
    (StopsAt (AllTaken g.K.Sink.SampleSink.told g.K.Sinks.reads first) (g.K.Sinks.reads first) slaves.form slaves.port (before ++ [])
    c.args.bytes.now slaves)
    (StopsWithin (AllTaken g.K.Sink.SampleSink.told g.K.Sinks.reads first) (g.K.Sinks.reads first) slaves.form slaves.port before
    c.args.bytes.now slaves)
    fault
    (λ stops. ([], c.args.bytes.now, refl, stops))
    (stops-format (AllTaken g.K.Sink.SampleSink.told g.K.Sinks.reads first) (g.K.Sinks.reads first) slaves.form slaves.port (before ++ [])
    c.args.bytes.now slaves c.args.reader.now c.in-Err.fault
    (record {
      packets = packets;
      stand = subst (λ (bs : List ℕ). StandsAfter c.args.reader.now bs packets) (sym (append-nil before)) stands;
      taken = taken;
      form_stays = refl;
      port_stays = refl;
    })
    c.in-Err.ensures.err))
