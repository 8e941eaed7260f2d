use Rattle.std.proofs.Common.{inl, [], List, sym, subst, ◌∙◌, refl}
use Rattle.std.proofs.lemmas.Result.{IfOk-weaker}
use Rattle.std.specs.declared.net.ip_addr.IpAddr.{IpAddr}
use Rattle.captured_samples.specs.Slaves.{SlaveOf, StandsAfter}
use Rattle.capture_recording.specs.Refusals.{IsOneTooMany}
use Rattle.capture_recording.specs.Slaves.{EachHeard, IsMet, MeetsOnly, SlavesOf}
use Rattle.capture_recording.specs.declared.slave.Slave.{Slave}
use Rattle.capture_recording.proofs.EachHeardLemmas.{heard-met, heard-passed}
use Rattle.capture_recording.proofs.SlavesLemmas.{meets-one, placed}
use Rattle.capture_recording.proofs.RefusalLemmas.{if-err-or}
use Rattle.capture_recording.proofs.slaves.Slaves.place_of.Goals as goal

pub returns-in_default-sink_of-clause-heard : goal.returns-in_default-sink_of-clause-heard
returns-in_default-sink_of-clause-heard g c first said all =
    heard-passed g.K.Sink.SampleSink.told g.K.Sinks.reads first said _ c.sink_of.new.self
    (subst (λ (v : SlavesOf _ _). EachHeard g.K.Sink.SampleSink.told g.K.Sinks.reads first said v) (sym c.self.view_is) all)
    (c.in_default-sink_of.ensures.unread refl)

pub returns-clause-heard : goal.returns-clause-heard
returns-clause-heard g c first said all =
    let s = c.new.result in
    IfOk-weaker c.add.result _ _
    (λ place e.
    subst (λ (ys : List (Slave _)). EachHeard g.K.Sink.SampleSink.told g.K.Sinks.reads first said (record { port = c.self.inside.port; form = c.self.inside.form; sinks = c.sink_of.new.self; slaves = ys; parts = c.self.inside.parts }))
    (sym e.1)
    (heard-met g.K.Sink.SampleSink.told g.K.Sinks.reads first said _ s c.sink_of.new.self
    (subst (λ (v : SlavesOf _ _). EachHeard g.K.Sink.SampleSink.told g.K.Sinks.reads first said v) (sym c.self.view_is) all)
    (λ met. c.in_default.ensures.none refl
    (subst (λ (xs : List (Slave _)). IsMet c.args.address xs) (sym c.deref.ensures.value)
    (subst (λ (a : IpAddr). IsMet a c.self.inside.slaves.items) c.new.ensures.address met)))
    (subst (λ (a : IpAddr). g.K.Sinks.reads c.self.inside.sinks a) (sym c.new.ensures.address) c.in-Some-sink_of.ensures.some)
    (λ a other. c.in-Some-sink_of.ensures.others a (λ e. other (e ∙ sym c.new.ensures.address)))
    (λ start given. subst (λ (t : SlaveOf). StandsAfter start [] t) (sym c.new.ensures.samples) (c.new-samples.ensures start given))
    (subst (λ (k : g.row.K-Sink.Denot). g.K.Sink.SampleSink.told k []) (sym c.new.ensures.sink) c.in-Some-sink_of.ensures.untold)
    c.new.ensures.plain))
    c.add.ensures.ok

pub returns-clause-some : goal.returns-clause-some
returns-clause-some g c =
    IfOk-weaker c.add.result _ _
    (λ place e. placed c.self.inside.slaves.items c.add.new.slaves.items c.new.result c.args.address place e.0 e.1 c.new.ensures.address)
    c.add.ensures.ok

pub returns-in_default-sink_of-clause-only : goal.returns-in_default-sink_of-clause-only
returns-in_default-sink_of-clause-only g c a met = inl (subst (λ (v : SlavesOf _ _). IsMet a v.slaves) c.self.view_is met)

pub returns-clause-only : goal.returns-clause-only
returns-clause-only g c =
    IfOk-weaker c.add.result _ _
    (λ place e.
    subst (λ (v : SlavesOf _ _). MeetsOnly c.args.address v.slaves c.add.new.slaves.items) c.self.view_is
    (meets-one c.self.inside.slaves.items c.add.new.slaves.items c.new.result c.args.address e.1 c.new.ensures.address))
    c.add.ensures.ok

pub returns-clause-err : goal.returns-clause-err
returns-clause-err g c first said all =
    let unmet : IsMet c.args.address c.self.inside.slaves.items → ⊥ =
    λ met. c.in_default.ensures.none refl (subst (λ (xs : List (Slave _)). IsMet c.args.address xs) (sym c.deref.ensures.value) met) in
    if-err-or c.add.result _ _
    (λ fault r.
    subst (λ (v : SlavesOf _ _). IsOneTooMany (g.K.Sinks.reads first) c.args.address v.slaves fault) c.self.view_is
    (record {
      is = r.0;
      many = r.1;
      unmet = unmet;
      read = ((subst (λ (v : SlavesOf _ _). EachHeard g.K.Sink.SampleSink.told g.K.Sinks.reads first said v) (sym c.self.view_is) all).left
          c.args.address unmet).0 c.in-Some-sink_of.ensures.some;
    }))
    c.add.ensures.err
