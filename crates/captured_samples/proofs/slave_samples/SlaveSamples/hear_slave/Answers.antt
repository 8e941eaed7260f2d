use Rattle.std.proofs.Common.{ap, sym, ◌≡◌}
use Rattle.captured_session.specs.SetUps.{Session}
use Rattle.captured_samples.specs.Frames.{read_of, step_of, with_frame}
use Rattle.captured_samples.specs.Standing.{lists_of, set_up_of, told_by, with_slave}
use Rattle.captured_samples.specs.declared.counter_steps.CounterStep.{CounterStep}
use Rattle.captured_samples.proofs.HeardLemmas.{stands-of, tells-of}
use Rattle.captured_samples.proofs.ListsLemmas.{on_ok}
use Rattle.captured_samples.proofs.slave_samples.SlaveSamples.hear_slave.Goals as goal

pub returns-in_default-clause-stands : goal.returns-in_default-clause-stands
returns-in_default-clause-stands g c start h s =
    let r = read_of h in
    let told : ◌≡◌ {A = CounterStep} c.step_of.result (step_of r c.args.counter c.args.packet.now) =
    c.step_of.ensures r s.counter (ap (λ (t : Session). t.waiting) s.keeps.session) in
    let is : step_of r c.args.counter c.args.packet.now ≡ c.step_of.result = sym told in
    on_ok c.hear_next.result
    (stands-of start _ _ _ _ _
    (ap (λ (step : CounterStep). with_frame r c.args.counter c.args.packet.now step) is)
    (ap (λ (step : CounterStep). with_slave start (set_up_of start h) step c.args.packet.now (lists_of start h)) is))
    (c.hear_next.ensures.stands start r (lists_of start h) s)

pub returns-in_default-clause-told : goal.returns-in_default-clause-told
returns-in_default-clause-told g c start h s =
    let r = read_of h in
    let told : ◌≡◌ {A = CounterStep} c.step_of.result (step_of r c.args.counter c.args.packet.now) =
    c.step_of.ensures r s.counter (ap (λ (t : Session). t.waiting) s.keeps.session) in
    let is : step_of r c.args.counter c.args.packet.now ≡ c.step_of.result = sym told in
    on_ok c.hear_next.result
    (tells-of (g.S.SampleSink.told c.args.sink.now) (g.S.SampleSink.told c.hear_next.new.sink)
    (told_by start (set_up_of start h) (step_of r c.args.counter c.args.packet.now) c.args.packet.now (lists_of start h))
    (told_by start (set_up_of start h) c.step_of.result c.args.packet.now (lists_of start h)) (ap (λ (step : CounterStep). told_by start (set_up_of start h) step c.args.packet.now (lists_of start h)) is))
    (c.hear_next.ensures.told start r (lists_of start h) s)
