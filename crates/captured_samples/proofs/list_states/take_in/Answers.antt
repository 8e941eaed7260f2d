use Rattle.std.proofs.Common.{List, ap, map, set, subst, sym, ◌∙◌, ◌≡◌}
use Rattle.captured_samples.specs.Slaves.{Tells, state_of}
use Rattle.captured_samples.specs.Standing.{Told, given_to}
use Rattle.captured_samples.specs.declared.list_state.ListState.{ListState}
use Rattle.captured_samples.proofs.ListsLemmas.{none-gives, on_ok, owned-at, owner-at, tells-nothing}
use Rattle.captured_samples.proofs.list_states.take_in.Goals as goal

pub take_at-requires : goal.take_at-requires
take_at-requires g c =
    owned-at c.args.packet.now c.args.lists.now c.in-Some.at c.index-lists-at.result (sym c.owner_of.ensures ∙ c.in-Some.is)

pub returns-in-Some-clause-lists : goal.returns-in-Some-clause-lists
returns-in-Some-clause-lists g c xs e =
    let o = owner-at c.args.packet.now xs c.args.lists.now c.in-Some.at c.index-lists-at.result e (sym c.owner_of.ensures ∙ c.in-Some.is) c.index-lists-at.is in
    on_ok c.take_at.result
    (λ (is : c.take_at.new.list ≡ state_of (given_to c.args.packet.now o.x)).
    ap (set c.args.lists.now c.in-Some.at) is
    ∙ ap (λ (ys : List ListState). set ys c.in-Some.at (state_of (given_to c.args.packet.now o.x))) e ∙ sym o.given)
    (c.take_at.ensures.list o.x (sym c.index-lists-at.is ∙ o.is))

pub returns-in-Some-clause-told : goal.returns-in-Some-clause-told
returns-in-Some-clause-told g c xs e =
    let o = owner-at c.args.packet.now xs c.args.lists.now c.in-Some.at c.index-lists-at.result e (sym c.owner_of.ensures ∙ c.in-Some.is) c.index-lists-at.is in
    on_ok c.take_at.result
    (subst (λ (ts : List Told). Tells (g.S.SampleSink.told c.args.sink.now) (g.S.SampleSink.told c.take_at.new.sink) ts) (sym o.told))
    (c.take_at.ensures.told o.x (sym c.index-lists-at.is ∙ o.is))

pub returns-in-None-clause-lists : goal.returns-in-None-clause-lists
returns-in-None-clause-lists g c xs e =
    e ∙ ap (map state_of) (sym (none-gives c.args.packet.now xs c.args.lists.now e (sym c.owner_of.ensures ∙ c.in-None.is)).0)

pub returns-in-None-clause-told : goal.returns-in-None-clause-told
returns-in-None-clause-told g c xs e =
    tells-nothing _ _ (none-gives c.args.packet.now xs c.args.lists.now e (sym c.owner_of.ensures ∙ c.in-None.is)).1
