use Rattle.std.proofs.Common.{List, [], ap, get_or, length, refl, subst, sym, take, ◌<◌, ◌∙◌, ◌≡◌}
use Rattle.std.proofs.lemmas.List.{get_or_default}
use Rattle.captured_session.specs.declared.fact.Fact.{Fact}
use Rattle.captured_session.specs.declared.fact.Fact.TheVariants.{Odts}
use Rattle.captured_samples.specs.Slaves.{Tells, states_of}
use Rattle.captured_samples.specs.Standing.{Told, told_fact, told_facts, with_facts}
use Rattle.captured_samples.proofs.ListsLemmas.{all-facts, facts-more, tells-both, tells-nothing}
use Rattle.captured_samples.proofs.list_states.ListStates.add_all.Goals as goal

pub loop-fact-init : goal.loop-fact-init
loop-fact-init g c ls e = (e, tells-nothing (g.S.SampleSink.told c.args.sink.now) [] refl)

pub loop-fact-preserved : goal.loop-fact-preserved
loop-fact-preserved g c ls e =
    let s = c.args.set_up.now in
    let i = c.loop-fact.fact-index in
    let same : c.facts-fact-items.result.now ≡ s.facts = c.facts-fact-items.ensures in
    let lt : i < length s.facts = subst (λ (fs : List Fact). i < length fs) same c.loop-fact-test.true in
    let f : Fact = get_or c.facts-fact-items.result.now i (Odts 0 0) in
    let is : f ≡ get_or s.facts i f = ap (λ (fs : List Fact). get_or fs i (Odts 0 0)) same ∙ get_or_default s.facts i (Odts 0 0) f lt in
    let more = facts-more s s.facts i f ls lt is in
    let was = c.loop-fact.invariant ls e in (
      c.in_ok-add_by.ensures.lists (with_facts s (take i s.facts) ls) was.0 ∙ ap states_of (sym more.0),
      subst (λ (ts : List Told). Tells (g.S.SampleSink.told c.args.sink.now) (g.S.SampleSink.told c.add_by.new.sink) ts) (sym more.1)
          (tells-both (g.S.SampleSink.told c.args.sink.now) (g.S.SampleSink.told c.loop-fact.sink) (g.S.SampleSink.told c.add_by.new.sink)
          (told_facts s (take i s.facts) ls) (told_fact s f (with_facts s (take i s.facts) ls)) was.1 (c.in_ok-add_by.ensures.told (with_facts s (take i s.facts) ls) was.0)),
    )

pub returns-clause-lists : goal.returns-clause-lists
returns-clause-lists g c ls e =
    (c.loop-fact.invariant ls e).0
    ∙ ap (λ (fs : List Fact). states_of (with_facts c.args.set_up.now fs ls))
    (all-facts c.args.set_up.now.facts c.facts-fact-items.result.now c.loop-fact.fact-index c.facts-fact-items.ensures c.loop-fact-test.false)

pub returns-clause-told : goal.returns-clause-told
returns-clause-told g c ls e =
    subst (λ (fs : List Fact). Tells (g.S.SampleSink.told c.args.sink.now) (g.S.SampleSink.told c.loop-fact.sink) (told_facts c.args.set_up.now fs ls))
    (all-facts c.args.set_up.now.facts c.facts-fact-items.result.now c.loop-fact.fact-index c.facts-fact-items.ensures c.loop-fact-test.false)
    (c.loop-fact.invariant ls e).1
