use Rattle.std.proofs.Common.{List, ap, subst, sym}
use Rattle.captured_session.specs.Lists.{ListOf}
use Rattle.captured_samples.specs.Slaves.{AllRead, Keeps}
use Rattle.captured_samples.specs.Standing.{begins_anew, broken, come_to, for_each, set_up_by, told_at_gap}
use Rattle.captured_samples.specs.declared.counter_steps.CounterStep.{CounterStep}
use Rattle.captured_samples.proofs.HeardLemmas.{keeps-of, tells-of}
use Rattle.captured_samples.proofs.ListsLemmas.{on_ok}
use Rattle.captured_samples.proofs.ReadLemmas.{lists-broken}
use Rattle.captured_samples.proofs.slave_samples.SlaveSamples.come_to.Goals as goal

pub returns-in-First-clause-stands : goal.returns-in-First-clause-stands
returns-in-First-clause-stands g c start heard ls k =
    let v = subst (Keeps start heard ls) (sym c.self.view_is) k in
    keeps-of start heard _ (for_each broken ls) _ (ap (λ (step : CounterStep). come_to start (set_up_by start heard) step ls) c.in-First.is)
    (record {
      session = v.session;
      lists = c.break_all.ensures ls v.lists;
      read = λ stays. subst (λ (xs : List ListOf). AllRead start (set_up_by start heard) xs) (sym (lists-broken ls.lists)) (v.read stays);
    })

pub returns-in-Jump-clause-told : goal.returns-in-Jump-clause-told
returns-in-Jump-clause-told g c start heard ls k =
    on_ok c.meet_gap.result
    (tells-of (g.S.SampleSink.told c.args.sink.now) (g.S.SampleSink.told c.meet_gap.new.sink) (told_at_gap start (set_up_by start heard) c.args.step ls)
    (begins_anew start (set_up_by start heard) ls) (ap (λ (step : CounterStep). told_at_gap start (set_up_by start heard) step ls) c.in-Jump.is))
    (c.meet_gap.ensures.told start heard ls k)
