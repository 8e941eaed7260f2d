use Rattle.std.proofs.Common.{ap, sym, ◌∙◌}
use Rattle.std.specs.Option.{is_some}
use Rattle.std.specs.Prelude.{cond}
use Rattle.run_file.specs.Lent.{step_data}
use Rattle.daq_run.specs.Steps.{run_step}
use Rattle.daq_run.specs.Inner.Workers.{is_of}
use Rattle.daq_run.proofs.WorkLemmas.{asked_other, asked_own}
use Rattle.daq_run.proofs.worker.do_if_own.Goals as goal

-- a step of another channel is passed over
pub returns-then-not-is_of-clause-does : goal.returns-then-not-is_of-clause-does
returns-then-not-is_of-clause-does g c =
    let a = c.args.sampler.now in
    let step = run_step (step_data c.args.step) in
    let other = ap (λ k. is_of k step) (sym c.channel-c.ensures) ∙ (sym c.is_of.ensures ∙ c.if-not-is_of.true) in
    asked_other g.S.SendEnd g.S.End.RingEnd a a.channel step other

-- its own is asked for
pub returns-in-Some-clause-does : goal.returns-in-Some-clause-does
returns-in-Some-clause-does g c =
    let a = c.args.sampler.now in
    let step = run_step (step_data c.args.step) in
    let own = ap (λ k. is_of k step) (sym c.channel-c.ensures) ∙ (sym c.is_of.ensures ∙ c.if-not-is_of.false) in
    asked_own g.S.SendEnd g.S.End.RingEnd a c.ask-refusal.new.sampler a.channel step c.ask-refusal.result 1
    c.ask-refusal.ensures.set_up_stays c.ask-refusal.ensures.answers own (sym (ap (λ answer. cond (is_some answer) 1 0) c.in-Some.is))

pub returns-in-None-clause-does : goal.returns-in-None-clause-does
returns-in-None-clause-does g c =
    let a = c.args.sampler.now in
    let step = run_step (step_data c.args.step) in
    let own = ap (λ k. is_of k step) (sym c.channel-c.ensures) ∙ (sym c.is_of.ensures ∙ c.if-not-is_of.false) in
    asked_own g.S.SendEnd g.S.End.RingEnd a c.ask-refusal.new.sampler a.channel step c.ask-refusal.result 0
    c.ask-refusal.ensures.set_up_stays c.ask-refusal.ensures.answers own (sym (ap (λ answer. cond (is_some answer) 1 0) c.in-None.is))
