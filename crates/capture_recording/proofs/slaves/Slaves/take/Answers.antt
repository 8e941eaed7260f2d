use Rattle.std.proofs.Common.{◌∷◌, subst, refl}
use Rattle.std.proofs.lemmas.Result.{IfOk-weaker}
use Rattle.capture.specs.Packets.{packet_of}
use Rattle.datagrams.specs.Ip.{ip_of}
use Rattle.datagrams.specs.Links.{CarriesIp}
use Rattle.datagrams.specs.declared.link.Link.{Link}
use Rattle.capture_recording.proofs.RefusalLemmas.{if-err-or}
use Rattle.capture_recording.proofs.ResultLemmas.{if-ok-both}
use Rattle.capture_recording.proofs.TakenLemmas.{no-ip, said-part, said-whole, taken-none, taken-part, taken-whole}
use Rattle.capture_recording.proofs.slaves.Slaves.take.Goals as goal

pub returns-in_default-packet_in-clause-taken : goal.returns-in_default-packet_in-clause-taken
returns-in_default-packet_in-clause-taken g c first ps all =
    taken-none g.K.Sink.SampleSink.told g.K.Sinks.reads first (packet_of c.args.captured.now) ps c.args.self.now all
    (no-ip (packet_of c.args.captured.now) c.in-Some.bytes.now
    (subst (λ (l : Link). CarriesIp l c.args.captured.now.bytes.now c.in-Some.bytes.now) c.of.ensures c.in-Some.ensures.some)
    (c.in_default-packet_in.ensures.none refl))

pub returns-in-None-clause-taken : goal.returns-in-None-clause-taken
returns-in-None-clause-taken g c first ps all =
    IfOk-weaker c.hear_packet.result _ _
    (λ _ both.
    taken-whole g.K.Sink.SampleSink.told g.K.Sinks.reads first (packet_of c.args.captured.now) ps
    (ip_of c.in-Some-packet_in.packet) c.args.self.now c.hear_packet.new.self all
    (record {
      bytes = c.in-Some.bytes.now;
      carries = subst (λ (l : Link). CarriesIp l c.args.captured.now.bytes.now c.in-Some.bytes.now) c.of.ensures c.in-Some.ensures.some;
      is = c.in-Some-packet_in.ensures.some;
    })
    c.in-None.is both.0 both.1.parts)
    (if-ok-both c.hear_packet.result _ _ (c.hear_packet.ensures.heard first all.said all.heard) c.hear_packet.ensures.stays)

pub returns-in-Some-part-clause-taken : goal.returns-in-Some-part-clause-taken
returns-in-Some-part-clause-taken g c first ps all =
    IfOk-weaker c.hear_part.result _ _
    (λ _ takes.
    taken-part g.K.Sink.SampleSink.told g.K.Sinks.reads first (packet_of c.args.captured.now) ps
    (ip_of c.in-Some-packet_in.packet) c.in-Some-part.field-0 c.args.self.now c.hear_part.new.self all
    (record {
      bytes = c.in-Some.bytes.now;
      carries = subst (λ (l : Link). CarriesIp l c.args.captured.now.bytes.now c.in-Some.bytes.now) c.of.ensures c.in-Some.ensures.some;
      is = c.in-Some-packet_in.ensures.some;
    })
    c.in-Some-part.is takes)
    (c.hear_part.ensures.takes first all.waits all.said all.waiting all.heard)

pub returns-in-None-clause-err : goal.returns-in-None-clause-err
returns-in-None-clause-err g c first ps all =
    if-err-or c.hear_packet.result _ _
    (λ fault r. (
      all.waits,
      r.0 ∷ all.said,
      said-whole (packet_of c.args.captured.now) ps (ip_of c.in-Some-packet_in.packet) all.waits all.said r.0 all.are
          (record {
            bytes = c.in-Some.bytes.now;
            carries = subst (λ (l : Link). CarriesIp l c.args.captured.now.bytes.now c.in-Some.bytes.now) c.of.ensures c.in-Some.ensures.some;
            is = c.in-Some-packet_in.ensures.some;
          })
          c.in-None.is r.1,
      r.2,
    ))
    (c.hear_packet.ensures.err first all.said all.heard)

pub returns-in-Some-part-clause-err : goal.returns-in-Some-part-clause-err
returns-in-Some-part-clause-err g c first ps all =
    if-err-or c.hear_part.result _ _
    (λ fault r. (
      r.0,
      r.2,
      said-part (packet_of c.args.captured.now) ps (ip_of c.in-Some-packet_in.packet) c.in-Some-part.field-0 all.waits r.0 all.said r.2 r.1 all.are
          (record {
            bytes = c.in-Some.bytes.now;
            carries = subst (λ (l : Link). CarriesIp l c.args.captured.now.bytes.now c.in-Some.bytes.now) c.of.ensures c.in-Some.ensures.some;
            is = c.in-Some-packet_in.ensures.some;
          })
          c.in-Some-part.is r.3 r.4,
      r.5,
    ))
    (c.hear_part.ensures.err first all.waits all.said all.waiting all.heard)
