use Rattle.std.proofs.Common.{◌∷◌, [], ℕ, List, Some, ap, subst, sym, ◌∙◌, ◌≡◌}
use Rattle.captured_samples.specs.Slaves.{StatesOf, Tells, states_of}
use Rattle.captured_samples.specs.Standing.{Told, began, with_found}
use Rattle.captured_samples.proofs.ListsLemmas.{has-by, on_ok, tells-nothing, with-new, with-there}
use Rattle.captured_samples.proofs.list_states.ListStates.add.Goals as goal

pub returns-then-has_list-clause-lists : goal.returns-then-has_list-clause-lists
returns-then-has_list-clause-lists g c ls e =
    let there = has-by c.args.list ls.lists c.deref.result.now c.has_list.result c.has_list.ensures
    (c.deref.ensures.value ∙ ap (λ (v : StatesOf). v.lists) (c.self.view_is ∙ e)) ∙ c.if-has_list.true in
    e ∙ ap states_of (sym (with-there c.args.set_up.now c.args.list ls there).0)

pub returns-then-has_list-clause-told : goal.returns-then-has_list-clause-told
returns-then-has_list-clause-told g c ls e =
    let there = has-by c.args.list ls.lists c.deref.result.now c.has_list.result c.has_list.ensures
    (c.deref.ensures.value ∙ ap (λ (v : StatesOf). v.lists) (c.self.view_is ∙ e)) ∙ c.if-has_list.true in
    tells-nothing _ _ (with-there c.args.set_up.now c.args.list ls there).1

pub returns-in-Some-clause-lists : goal.returns-in-Some-clause-lists
returns-in-Some-clause-lists g c ls e =
    let there = has-by c.args.list ls.lists c.deref.result.now c.has_list.result c.has_list.ensures
    (c.deref.ensures.value ∙ ap (λ (v : StatesOf). v.lists) (c.self.view_is ∙ e)) ∙ c.if-has_list.false in
    let found = with-new c.args.set_up.now c.args.list ls (Some c.in-Some.found) there (sym c.in_ok-found.ensures ∙ c.in-Some.is) in
    on_ok c.begin.result
    (λ (is : c.begin.new.self ≡ states_of (with_found ls (Some c.in-Some.found))). is ∙ ap states_of (sym found.0))
    (c.begin.ensures.lists ls e)

pub returns-in-Some-clause-told : goal.returns-in-Some-clause-told
returns-in-Some-clause-told g c ls e =
    let there = has-by c.args.list ls.lists c.deref.result.now c.has_list.result c.has_list.ensures
    (c.deref.ensures.value ∙ ap (λ (v : StatesOf). v.lists) (c.self.view_is ∙ e)) ∙ c.if-has_list.false in
    let found = with-new c.args.set_up.now c.args.list ls (Some c.in-Some.found) there (sym c.in_ok-found.ensures ∙ c.in-Some.is) in
    on_ok c.begin.result
    (subst (λ (ts : List Told). Tells (g.S.SampleSink.told c.args.sink.now) (g.S.SampleSink.told c.begin.new.sink) ts)
    (ap (λ (n : ℕ). began n c.in-Some.found ∷ []) (ap (λ (v : StatesOf). v.begun) e) ∙ sym found.1))
    c.begin.ensures.told
