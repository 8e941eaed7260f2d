use Rattle.std.proofs.Common.{◌∷◌, ℕ, sym, ap, subst, ◌∙◌, refl, Some, Option, IfSome, IsNone}
use Rattle.std.proofs.lemmas.Option.{slice_get-get_or}
use Rattle.std.proofs.lemmas.Result.{IfOk-weaker}
use Rattle.capture_recording.specs.Refusals.{IsOneTooMany, OrMemory, RefusesSaid}
use Rattle.capture_recording.specs.Slaves.{EachHeard, IsAt, MeetsOnly, SlavesOf}
use Rattle.capture_recording.specs.Talks.{IsTalk, data_of}
use Rattle.capture_recording.specs.declared.capture_read_fault.CaptureReadFault.{CaptureReadFault}
use Rattle.capture_recording.proofs.AllHeardLemmas.{all-more, all-nobody, all-unread}
use Rattle.capture_recording.proofs.RefusalLemmas.{if-err-or, or-memory, refuses-many, refuses-session}
use Rattle.capture_recording.proofs.ResultLemmas.{handed-on}
use Rattle.capture_recording.proofs.SlavesLemmas.{address-is}
use Rattle.capture_recording.proofs.slaves.Slaves.hear.Goals as goal

pub returns-in_default-clause-heard : goal.returns-in_default-clause-heard
returns-in_default-clause-heard g c first said all =
    all-nobody g.K.Sink.SampleSink.told g.K.Sinks.reads first said c.args.self.now (data_of c.args.carried.now) all
    (λ talk is. c.in_default.ensures.none refl talk
    (subst (λ (v : SlavesOf _ _). IsTalk v.port (data_of c.args.carried.now) talk) (sym c.self.view_is) is))

pub returns-in_default-2-clause-heard : goal.returns-in_default-2-clause-heard
returns-in_default-2-clause-heard g c first said all =
    all-unread g.K.Sink.SampleSink.told g.K.Sinks.reads first said c.args.self.now c.place_of.new.self
    (data_of c.args.carried.now) c.in-Some.talk all.talked (c.in_ok-place.ensures.heard first said all.each_heard)
    c.in_ok-place.ensures.only c.in_ok-place.ensures.stays.port
    (subst (λ (n : ℕ). IsTalk n (data_of c.args.carried.now) c.in-Some.talk)
    (ap (λ (v : SlavesOf _ _). v.port) c.self.view_is ∙ sym c.in_ok-place.ensures.stays.port) c.in-Some.ensures.some)
    (c.in_ok-place.ensures.none first said all.each_heard (subst (λ (o : Option ℕ). IsNone o) (sym c.in_default-2.is) refl))

pub returns-clause-heard : goal.returns-clause-heard
returns-clause-heard g c first said all =
    let i = c.in-Some-2.place in
    let xs = c.self-2.inside.slaves.items in
    let was = c.index_mut.result.now in
    let at : IsAt c.in-Some.talk.slave xs i =
    subst (λ (v : SlavesOf _ _). IsAt c.in-Some.talk.slave v.slaves i) (sym c.self-2.view_is)
    (subst (λ (o : Option ℕ). IfSome o (IsAt c.in-Some.talk.slave c.place_of.new.self.slaves)) c.in-Some-2.is c.in_ok-place.ensures.some) in
    let got = slice_get-get_or xs i was at.0 ∙ ap Some (sym c.index_mut.ensures.value) in
    IfOk-weaker c.hear.result _ _
    (λ _ heard.
    all-more g.K.Sink.SampleSink.told g.K.Sinks.reads first said c.args.self.now _ (data_of c.args.carried.now) c.in-Some.talk
    all.talked
    (subst (λ (v : SlavesOf _ _). EachHeard g.K.Sink.SampleSink.told g.K.Sinks.reads first said v) (sym c.self-2.view_is)
    (c.in_ok-place.ensures.heard first said all.each_heard))
    (subst (λ (v : SlavesOf _ _). MeetsOnly c.in-Some.talk.slave c.args.self.now.slaves v.slaves) (sym c.self-2.view_is) c.in_ok-place.ensures.only)
    (ap (λ (v : SlavesOf _ _). v.port) c.self-2.view_is ∙ c.in_ok-place.ensures.stays.port)
    (subst (λ (n : ℕ). IsTalk n (data_of c.args.carried.now) c.in-Some.talk)
    (ap (λ (v : SlavesOf _ _). v.port) c.self.view_is ∙ sym c.in_ok-place.ensures.stays.port
    ∙ sym (ap (λ (v : SlavesOf _ _). v.port) c.self-2.view_is))
    c.in-Some.ensures.some)
    i was c.hear.new.self got (address-is xs i was c.in-Some.talk.slave got at.1) heard)
    c.hear.ensures.ok

pub returns-in_err-place-clause-err : goal.returns-in_err-place-clause-err
returns-in_err-place-clause-err g c first said all =
    let Refuses : CaptureReadFault → Type 0 =
    RefusesSaid (g.K.Sinks.reads first) c.args.self.now.form c.args.self.now.port (data_of c.args.carried.now ∷ said) in
    handed-on c.from_residual.result (OrMemory Refuses) c.in_err-place.field-0.0 c.from_residual.ensures.1
    (or-memory (IsOneTooMany (g.K.Sinks.reads first) c.in-Some.talk.slave c.args.self.now.slaves) Refuses c.in_err-place.field-0.0
    (refuses-many g.K.Sink.SampleSink.told g.K.Sinks.reads first said c.args.self.now (data_of c.args.carried.now) c.in-Some.talk
    c.in_err-place.field-0.0 all
    (subst (λ (v : SlavesOf _ _). IsTalk v.port (data_of c.args.carried.now) c.in-Some.talk) c.self.view_is c.in-Some.ensures.some))
    (c.in_err-place.ensures.err first said all.each_heard))

pub returns-clause-err : goal.returns-clause-err
returns-clause-err g c first said all =
    let i = c.in-Some-2.place in
    let xs = c.self-2.inside.slaves.items in
    let was = c.index_mut.result.now in
    let at : IsAt c.in-Some.talk.slave xs i =
    subst (λ (v : SlavesOf _ _). IsAt c.in-Some.talk.slave v.slaves i) (sym c.self-2.view_is)
    (subst (λ (o : Option ℕ). IfSome o (IsAt c.in-Some.talk.slave c.place_of.new.self.slaves)) c.in-Some-2.is c.in_ok-place.ensures.some) in
    let got = slice_get-get_or xs i was at.0 ∙ ap Some (sym c.index_mut.ensures.value) in
    if-err-or c.hear.result _ _
    (λ fault is.
    refuses-session g.K.Sink.SampleSink.told g.K.Sinks.reads first said c.args.self.now _ (data_of c.args.carried.now)
    c.in-Some.talk i was fault
    (subst (λ (v : SlavesOf _ _). EachHeard g.K.Sink.SampleSink.told g.K.Sinks.reads first said v) (sym c.self-2.view_is)
    (c.in_ok-place.ensures.heard first said all.each_heard))
    (ap (λ (v : SlavesOf _ _). v.form) c.self-2.view_is ∙ c.in_ok-place.ensures.stays.form)
    (ap (λ (v : SlavesOf _ _). v.port) c.self-2.view_is ∙ c.in_ok-place.ensures.stays.port)
    (subst (λ (v : SlavesOf _ _). IsTalk v.port (data_of c.args.carried.now) c.in-Some.talk) c.self.view_is c.in-Some.ensures.some)
    got (address-is xs i was c.in-Some.talk.slave got at.1) is.0 is.1)
    c.hear.ensures.err
