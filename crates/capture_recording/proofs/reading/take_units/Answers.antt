use Rattle.std.proofs.Common.{◌≡◌, inl, inr, ℕ, ◌-◌, ◌<◌, ◌≤◌, ◌++◌, List, arith, length, sym, ap, subst, drop, take, ◌∙◌}
use Rattle.std.proofs.lemmas.List.{append-nil, drop_all, length-drop, take-append-drop, take_all}
use Rattle.capture.specs.Units.{NextHas}
use Rattle.capture_recording.specs.Reads.{TakesUnits}
use Rattle.capture_recording.specs.Refusals.{RefusesUnits}
use Rattle.capture_recording.proofs.ReadsLemmas.{take-both, take-none, units-both}
use Rattle.capture_recording.proofs.RefusalLemmas.{units-stop}
use Rattle.capture_recording.proofs.ResultLemmas.{handed-on}
use Rattle.capture_recording.proofs.reading.take_units.Goals as goal

pub returns-then-taken-eq0-clause-units : goal.returns-then-taken-eq0-clause-units
returns-then-taken-eq0-clause-units g c =
    let front = take c.units.at c.args.held.now in
    subst (λ (bs : List ℕ). TakesUnits g.K.Sink.SampleSink.told g.K.Sinks.reads c.args.reader.now c.take_unit.new.reader
    c.args.slaves.now c.take_unit.new.slaves bs)
    (ap (λ (bs : List ℕ). front ++ bs) (take-none _ _ c.if-taken-eq0.true) ∙ append-nil front)
    (units-both g.K.Sink.SampleSink.told g.K.Sinks.reads _ _ _ _ _ _ front _ c.units.invariant.1 c.in_ok-taken.ensures.units)

pub returns-then-taken-eq0-clause-short : goal.returns-then-taken-eq0-clause-short
returns-then-taken-eq0-clause-short g c =
    let at = c.units.at in
    let held = c.args.held.now in
    let all : take (length held - at) (drop at held) ≡ drop at held = take_all _ (drop at held) (omega (arith, length-drop at held)) in
    inr (subst (λ (bs : List ℕ). NextHas (λ len. length bs < len) c.take_unit.new.reader bs) all (c.in_ok-taken.ensures.short c.if-taken-eq0.true))

pub returns-in_err-taken-clause-err : goal.returns-in_err-taken-clause-err
returns-in_err-taken-clause-err g c =
    let at = c.units.at in
    let held = c.args.held.now in
    let fault = c.in_err-taken.field-0.0 in
    let all : take (length held - at) (drop at held) ≡ drop at held = take_all _ (drop at held) (omega (arith, length-drop at held)) in
    handed-on c.from_residual.result
    (RefusesUnits g.K.Sink.SampleSink.told g.K.Sinks.reads c.args.reader.now c.args.slaves.now c.take_unit.new.slaves held) fault
    c.from_residual.ensures.1
    (subst (λ (bs : List ℕ). RefusesUnits g.K.Sink.SampleSink.told g.K.Sinks.reads c.args.reader.now c.args.slaves.now
    c.take_unit.new.slaves bs fault)
    (ap (λ (bs : List ℕ). take at held ++ bs) all ∙ take-append-drop at held)
    (units-stop g.K.Sink.SampleSink.told g.K.Sinks.reads c.args.reader.now c.units.reader c.args.slaves.now c.units.slaves
    c.take_unit.new.slaves (take at held) (take (length held - at) (drop at held)) fault c.units.invariant.1 c.units.invariant.2 c.units.invariant.3
    c.in_err-taken.ensures.err))

pub units-preserved : goal.units-preserved
units-preserved g c =
    let at = c.units.at in
    let held = c.args.held.now in
    let n = c.in_ok-taken.taken in
    let rest = drop at held in
    let all : take (length held - at) rest ≡ rest = take_all _ rest (omega (arith, length-drop at held)) in
    let within : n ≤ length rest = subst (λ (bs : List ℕ). n ≤ length bs) all c.in_ok-taken.ensures.within in (
      omega (arith, within, c.units.invariant.0, length-drop at held),
      subst (λ (bs : List ℕ). TakesUnits g.K.Sink.SampleSink.told g.K.Sinks.reads c.args.reader.now c.take_unit.new.reader
          c.args.slaves.now c.take_unit.new.slaves bs)
          (ap (λ (bs : List ℕ). take at held ++ take n bs) all ∙ sym (take-both held at n))
          (units-both g.K.Sink.SampleSink.told g.K.Sinks.reads _ _ _ _ _ _ (take at held) _ c.units.invariant.1 c.in_ok-taken.ensures.units),
      c.in_ok-taken.ensures.form ∙ c.units.invariant.2,
      c.in_ok-taken.ensures.port ∙ c.units.invariant.3,
      omega (arith, c.units.invariant.4, c.if-taken-eq0.false),
    )

pub returns-clause-short : goal.returns-clause-short
returns-clause-short g c =
    inl (drop_all c.units.at c.args.held.now (omega (arith, c.units.invariant.4, c.units-test.false)))
