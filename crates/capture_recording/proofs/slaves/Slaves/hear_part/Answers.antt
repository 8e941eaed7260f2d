use Rattle.std.proofs.Common.{◌∷◌, sym, subst, refl, Some, None, Option}
use Rattle.std.proofs.lemmas.Result.{IfOk-weaker}
use Rattle.datagrams.specs.Ip.{ip_of}
use Rattle.datagrams.specs.Waiting.{AreWaiting, PartsOf, TakesPacket}
use Rattle.datagrams.specs.Whole.{handed_out, whole_of}
use Rattle.datagrams.specs.declared.whole_datagram.WholeDatagram.{WholeDatagram}
use Rattle.capture_recording.specs.Refusals.{RefusesSaid}
use Rattle.capture_recording.specs.Slaves.{AllHeard, SlavesOf}
use Rattle.capture_recording.specs.Talks.{data_of}
use Rattle.capture_recording.proofs.AllHeardLemmas.{all-beside}
use Rattle.capture_recording.proofs.RefusalLemmas.{if-err-or}
use Rattle.capture_recording.proofs.ResultLemmas.{if-ok-both}
use Rattle.capture_recording.proofs.TakenLemmas.{joins-of}
use Rattle.capture_recording.proofs.slaves.Slaves.hear_part.Goals as goal

pub returns-in-Some-clause-takes : goal.returns-in-Some-clause-takes
returns-in-Some-clause-takes g c first waits said are all =
    let old = c.self.inside.parts in
    let new = c.take.new.self in
    let are-inside = subst (λ (v : SlavesOf _ _). AreWaiting v.parts waits) (sym c.self.view_is) are in
    let takes = subst (λ (o : Option WholeDatagram). TakesPacket waits (ip_of c.args.packet.now) (handed_out o) old new) c.in-Some.is
    (c.in-Ok.ensures.ok waits are-inside) in
    let joins = joins-of waits (ip_of c.args.packet.now) old new _ takes are-inside in
    let heard = c.hear.ensures.heard first said
    (all-beside g.K.Sink.SampleSink.told g.K.Sinks.reads first said _ new
    (subst (λ (v : SlavesOf _ _). AllHeard g.K.Sink.SampleSink.told g.K.Sinks.reads first said v) (sym c.self.view_is) all)) in
    IfOk-weaker c.hear.result _ _
    (λ _ both. record {
      later = joins.0;
      whole = Some (whole_of c.in-Some.whole);
      all = data_of c.by_parts.result ∷ said;
      joins = joins.1;
      said = (data_of c.by_parts.result, c.by_parts.ensures, refl);
      waiting = subst (λ (p : PartsOf). AreWaiting p joins.0) (sym both.1.parts) joins.2;
      heard = both.0;
    })
    (if-ok-both c.hear.result _ _ heard c.hear.ensures.stays)

pub returns-in-None-clause-takes : goal.returns-in-None-clause-takes
returns-in-None-clause-takes g c first waits said are all =
    let old = c.self.inside.parts in
    let new = c.take.new.self in
    let are-inside = subst (λ (v : SlavesOf _ _). AreWaiting v.parts waits) (sym c.self.view_is) are in
    let takes = subst (λ (o : Option WholeDatagram). TakesPacket waits (ip_of c.args.packet.now) (handed_out o) old new) c.in-None.is
    (c.in-Ok.ensures.ok waits are-inside) in
    let joins = joins-of waits (ip_of c.args.packet.now) old new _ takes are-inside in
    record {
      later = joins.0;
      whole = None;
      all = said;
      joins = joins.1;
      said = refl;
      waiting = joins.2;
      heard = all-beside g.K.Sink.SampleSink.told g.K.Sinks.reads first said _ new
          (subst (λ (v : SlavesOf _ _). AllHeard g.K.Sink.SampleSink.told g.K.Sinks.reads first said v) (sym c.self.view_is) all);
    }

pub returns-in-Some-clause-err : goal.returns-in-Some-clause-err
returns-in-Some-clause-err g c first waits said are all =
    let old = c.self.inside.parts in
    let new = c.take.new.self in
    let are-inside = subst (λ (v : SlavesOf _ _). AreWaiting v.parts waits) (sym c.self.view_is) are in
    let takes = subst (λ (o : Option WholeDatagram). TakesPacket waits (ip_of c.args.packet.now) (handed_out o) old new) c.in-Some.is
    (c.in-Ok.ensures.ok waits are-inside) in
    let joins = joins-of waits (ip_of c.args.packet.now) old new _ takes are-inside in
    if-err-or c.hear.result
    (RefusesSaid (g.K.Sinks.reads first) c.self.inside.form c.self.inside.port (data_of c.by_parts.result ∷ said)) _
    (λ fault r. (
      joins.0,
      Some (whole_of c.in-Some.whole),
      data_of c.by_parts.result ∷ said,
      joins.1,
      (data_of c.by_parts.result, c.by_parts.ensures, refl),
      subst (λ (v : SlavesOf _ _). RefusesSaid (g.K.Sinks.reads first) v.form v.port (data_of c.by_parts.result ∷ said) fault) c.self.view_is r,
    ))
    (c.hear.ensures.err first said
    (all-beside g.K.Sink.SampleSink.told g.K.Sinks.reads first said _ new
    (subst (λ (v : SlavesOf _ _). AllHeard g.K.Sink.SampleSink.told g.K.Sinks.reads first said v) (sym c.self.view_is) all)))
