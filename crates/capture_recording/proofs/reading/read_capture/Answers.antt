use Rattle.std.proofs.Common.{◌≡◌, ⊎_elim, ℕ, ◌<◌, ◌++◌, List, length, sym, ap, subst, ◌∙◌, take, drop, reverse}
use Rattle.std.proofs.lemmas.List.{append-nil}
use Rattle.std.proofs.lemmas.Result.{IfErr-weaker, IfOk-weaker}
use Rattle.std.specs.Io.KnownBytes.{Consumes}
use Rattle.capture.specs.Standing.{StandsAfter}
use Rattle.capture_recording.specs.Slaves.{AllTaken}
use Rattle.capture.specs.Units.{NextHas}
use Rattle.captured_session.specs.declared.form.Form.{Form}
use Rattle.capture_recording.specs.Refusals.{OrMemory, RefusesCapture, RefusesEnd, StopsWithin}
use Rattle.capture_recording.proofs.ReadsLemmas.{consumes-step}
use Rattle.capture_recording.proofs.RefusalLemmas.{refuses-at-end, refuses-units}
use Rattle.capture_recording.proofs.ResultLemmas.{handed-on}
use Rattle.capture_recording.proofs.reading.read_capture.Goals as goal

pub returns-in-Ok-true-clause-ok : goal.returns-in-Ok-true-clause-ok
returns-in-Ok-true-clause-ok g c first all =
    let inv = c.pieces.invariant.0 first all in
    let held = c.pieces.held.items in
    let n = c.in_ok-taken.taken in
    let units = c.in_ok-taken.ensures.units first inv.0 inv.1 inv.3 inv.4 in
    let read = c.is_read_to_end.new.bytes.items in
    let bytes = inv.0 ++ take n held in
    let consumed = consumes-step (g.I.Read.remaining c.args.input.now) (g.I.Read.remaining c.pieces.input)
    (g.I.Read.remaining c.is_read_to_end.new.input) inv.0 held c.drop_front.new.held.items read n inv.2 c.drop_front.ensures
    c.in-Ok-true.ensures.appends c.in-Ok-true.ensures.taken in
    IfOk-weaker c.ended.result _ _
    (λ _ empty. record {
      bytes = bytes;
      consumed = subst (λ (xs : List ℕ). Consumes (g.I.Read.remaining c.args.input.now) (g.I.Read.remaining c.is_read_to_end.new.input) xs)
          (ap (λ (xs : List ℕ). bytes ++ xs) (sym c.deref-in-Ok-true.ensures.value ∙ empty) ∙ append-nil bytes) consumed;
      end = c.in-Ok-true.ensures.end c.in-Ok-true.field-0-test;
      known = c.take_units.new.reader;
      packets = units.0;
      stand = subst (λ (xs : List ℕ). StandsAfter c.take_units.new.reader (inv.0 ++ take n xs) units.0) c.deref.ensures.value units.1;
      taken = c.in_ok-end-in-Ok-true.ensures.taken first (reverse units.0) units.2;
    })
    c.ended.ensures.ok

pub returns-in-Ok-true-clause-form : goal.returns-in-Ok-true-clause-form
returns-in-Ok-true-clause-form g c =
    IfOk-weaker c.ended.result _ _
    (λ _ _. c.in_ok-end-in-Ok-true.ensures.form ∙ c.in_ok-taken.ensures.form ∙ c.pieces.invariant.1) c.ended.ensures.ok

pub returns-in-Ok-true-clause-port : goal.returns-in-Ok-true-clause-port
returns-in-Ok-true-clause-port g c =
    IfOk-weaker c.ended.result _ _
    (λ _ _. c.in_ok-end-in-Ok-true.ensures.port ∙ c.in_ok-taken.ensures.port ∙ c.pieces.invariant.2) c.ended.ensures.ok

pub returns-in-Ok-true-clause-err : goal.returns-in-Ok-true-clause-err
returns-in-Ok-true-clause-err g c first all =
    let inv = c.pieces.invariant.0 first all in
    let held = c.pieces.held.items in
    let n = c.in_ok-taken.taken in
    let units = c.in_ok-taken.ensures.units first inv.0 inv.1 inv.3 inv.4 in
    let read = c.is_read_to_end.new.bytes.items in
    let known = c.take_units.new.reader in
    let same : read ≡ drop n c.deref.result.now =
    c.in-Ok-true.ensures.nothing c.in-Ok-true.field-0-test ∙ c.drop_front.ensures ∙ ap (λ (xs : List ℕ). drop n xs) (sym c.deref.ensures.value) in
    IfErr-weaker c.ended.result _ _
    (λ fault r.
    subst
    (RefusesCapture (AllTaken g.K.Sink.SampleSink.told g.K.Sinks.reads first) (g.K.Sinks.reads first) c.args.slaves.now.form
    c.args.slaves.now.port (g.I.Read.remaining c.args.input.now) (g.I.Read.remaining c.is_read_to_end.new.input) c.end.new.self)
    (sym r.0)
    (record {
      bytes = inv.0 ++ take n held;
      rest = read;
      known = known;
      consumed = consumes-step (g.I.Read.remaining c.args.input.now) (g.I.Read.remaining c.pieces.input)
          (g.I.Read.remaining c.is_read_to_end.new.input) inv.0 held c.drop_front.new.held.items read n inv.2 c.drop_front.ensures
          c.in-Ok-true.ensures.appends c.in-Ok-true.ensures.taken;
      end = c.in-Ok-true.ensures.end c.in-Ok-true.field-0-test;
      has = record {
        packets = units.0;
        stand = subst (λ (xs : List ℕ). StandsAfter known (inv.0 ++ take n xs) units.0) c.deref.ensures.value units.1;
        taken = c.in_ok-end-in-Ok-true.ensures.taken first (reverse units.0) units.2;
        form_stays = c.in_ok-end-in-Ok-true.ensures.form ∙ c.in_ok-taken.ensures.form ∙ c.pieces.invariant.1;
        port_stays = c.in_ok-end-in-Ok-true.ensures.port ∙ c.in_ok-taken.ensures.port ∙ c.pieces.invariant.2;
      };
      some = λ e. r.1 (c.deref-in-Ok-true.ensures.value ∙ e);
      longer = ⊎_elim (λ e. absurd (r.1 (c.deref-in-Ok-true.ensures.value ∙ same ∙ e)))
          (λ next. subst (λ (bs : List ℕ). NextHas (λ len. length bs < len) known bs) (sym same) next) c.in_ok-taken.ensures.short;
    }))
    c.ended.ensures.err

pub returns-in_err-taken-clause-err : goal.returns-in_err-taken-clause-err
returns-in_err-taken-clause-err g c first all =
    let inv = c.pieces.invariant.0 first all in
    let held = c.pieces.held.items in
    let fault = c.in_err-taken.field-0.0 in
    let form = c.pieces.slaves.form in
    let port = c.pieces.slaves.port in
    let old = g.I.Read.remaining c.args.input.now in
    let now = g.I.Read.remaining c.pieces.input in
    let slaves = c.take_units.new.slaves in
    handed-on c.from_residual.result
    (RefusesCapture (AllTaken g.K.Sink.SampleSink.told g.K.Sinks.reads first) (g.K.Sinks.reads first) c.args.slaves.now.form
    c.args.slaves.now.port old now slaves)
    fault c.from_residual.ensures.1
    (subst
    (λ (m : ℕ). RefusesCapture (AllTaken g.K.Sink.SampleSink.told g.K.Sinks.reads first) (g.K.Sinks.reads first)
    c.args.slaves.now.form m old now slaves fault)
    c.pieces.invariant.2
    (subst
    (λ (f : Form). RefusesCapture (AllTaken g.K.Sink.SampleSink.told g.K.Sinks.reads first) (g.K.Sinks.reads first) f port old now
    slaves fault)
    c.pieces.invariant.1
    (refuses-units (AllTaken g.K.Sink.SampleSink.told g.K.Sinks.reads first) (g.K.Sinks.reads first) form port old now inv.0 held
    slaves fault inv.2
    (subst
    (λ (bs : List ℕ). OrMemory
    (StopsWithin (AllTaken g.K.Sink.SampleSink.told g.K.Sinks.reads first) (g.K.Sinks.reads first) form port inv.0 bs slaves) fault)
    c.deref.ensures.value (c.in_err-taken.ensures.err first inv.0 inv.1 inv.3 inv.4)))))

pub returns-in_err-end-in-Ok-true-clause-err : goal.returns-in_err-end-in-Ok-true-clause-err
returns-in_err-end-in-Ok-true-clause-err g c first all =
    let inv = c.pieces.invariant.0 first all in
    let held = c.pieces.held.items in
    let n = c.in_ok-taken.taken in
    let units = c.in_ok-taken.ensures.units first inv.0 inv.1 inv.3 inv.4 in
    let read = c.is_read_to_end.new.bytes.items in
    let fault = c.in_err-end-in-Ok-true.field-0.0 in
    let old = g.I.Read.remaining c.args.input.now in
    let now = g.I.Read.remaining c.is_read_to_end.new.input in
    let port = c.args.slaves.now.port in
    handed-on c.from_residual-in_err-end-in-Ok-true.result
    (RefusesCapture (AllTaken g.K.Sink.SampleSink.told g.K.Sinks.reads first) (g.K.Sinks.reads first) c.args.slaves.now.form port old
    now c.end.new.self)
    fault c.from_residual-in_err-end-in-Ok-true.ensures.1
    (refuses-at-end (AllTaken g.K.Sink.SampleSink.told g.K.Sinks.reads first) (g.K.Sinks.reads first) c.args.slaves.now.form port old
    now (inv.0 ++ take n held) read c.end.new.self c.take_units.new.reader units.0 fault
    (consumes-step old (g.I.Read.remaining c.pieces.input) now inv.0 held c.drop_front.new.held.items read n inv.2 c.drop_front.ensures
    c.in-Ok-true.ensures.appends c.in-Ok-true.ensures.taken)
    (c.in-Ok-true.ensures.end c.in-Ok-true.field-0-test)
    (subst (λ (xs : List ℕ). StandsAfter c.take_units.new.reader (inv.0 ++ take n xs) units.0) c.deref.ensures.value units.1)
    (subst (λ (m : ℕ). OrMemory (RefusesEnd m (reverse units.0)) fault) (c.in_ok-taken.ensures.port ∙ c.pieces.invariant.2)
    (c.in_err-end-in-Ok-true.ensures.err first (reverse units.0) units.2)))

pub pieces-preserved : goal.pieces-preserved
pieces-preserved g c = (
  λ first all.
      let inv = c.pieces.invariant.0 first all in
      let held = c.pieces.held.items in
      let n = c.in_ok-taken.taken in
      let units = c.in_ok-taken.ensures.units first inv.0 inv.1 inv.3 inv.4 in (
        inv.0 ++ take n held,
        units.0,
        consumes-step (g.I.Read.remaining c.args.input.now) (g.I.Read.remaining c.pieces.input)
            (g.I.Read.remaining c.is_read_to_end.new.input) inv.0 held c.drop_front.new.held.items c.is_read_to_end.new.bytes.items n inv.2
            c.drop_front.ensures c.in-Ok-false.ensures.appends c.in-Ok-false.ensures.taken,
        subst (λ (xs : List ℕ). StandsAfter c.take_units.new.reader (inv.0 ++ take n xs) units.0) c.deref.ensures.value units.1,
        units.2,
      ),
  c.in_ok-taken.ensures.form ∙ c.pieces.invariant.1,
  c.in_ok-taken.ensures.port ∙ c.pieces.invariant.2,
)
