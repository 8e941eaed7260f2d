use Rattle.std.proofs.Common.{sym, subst}
use Rattle.std.proofs.lemmas.Result.{IfOk-weaker}
use Rattle.capture_recording.specs.Slaves.{AllTaken, SlavesOf}
use Rattle.capture_recording.proofs.AllHeardLemmas.{all-end}
use Rattle.capture_recording.proofs.RefusalLemmas.{if-err-or, refuses-end}
use Rattle.capture_recording.specs.Refusals.{RefusesEnd}
use Rattle.capture_recording.proofs.slaves.Slaves.end.Goals as goal

pub returns-clause-taken : goal.returns-clause-taken
returns-clause-taken g c first ps all =
    let t = subst (λ (v : SlavesOf _ _). AllTaken g.K.Sink.SampleSink.told g.K.Sinks.reads first ps v) (sym c.self.view_is) all in
    IfOk-weaker c.end_all.result _ _
    (λ _ ends. record {
      waits = t.waits;
      said = t.said;
      are = t.are;
      waiting = t.waiting;
      heard = all-end g.K.Sink.SampleSink.told g.K.Sinks.reads first t.said _ c.end_all.new.slaves.items t.heard ends;
    })
    c.end_all.ensures.ok

pub returns-clause-err : goal.returns-clause-err
returns-clause-err g c first ps all =
    let t = subst (λ (v : SlavesOf _ _). AllTaken g.K.Sink.SampleSink.told g.K.Sinks.reads first ps v) (sym c.self.view_is) all in
    if-err-or c.end_all.result _ _
    (λ fault r. subst (λ (v : SlavesOf _ _). RefusesEnd v.port ps fault) c.self.view_is
    (refuses-end g.K.Sink.SampleSink.told g.K.Sinks.reads first ps _ r.1 r.2 fault t r.3 r.4 r.0))
    c.end_all.ensures.err
