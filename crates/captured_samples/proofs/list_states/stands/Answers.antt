use Rattle.std.proofs.Common.{ℕ, ap, sym, ◌∙◌}
use Rattle.captured_session.specs.Lists.{ListOf, list_at}
use Rattle.captured_samples.proofs.ListsLemmas.{alike-found, alike-none}
use Rattle.captured_samples.proofs.list_states.stands.Goals as goal

pub returns-in-Some : goal.returns-in-Some
returns-in-Some c start =
    alike-found start c.args.list.now.samples.list c.list-list.result.now c.in-Some.found _ _ c.list-list.ensures
    (ap (λ (n : ℕ). list_at c.args.set_up.now n) (sym (c.list.ensures ∙ ap (λ (l : ListOf). l.list) c.list-list.ensures))
    ∙ sym c.in_ok-found.ensures ∙ c.in-Some.is)
    c.is_same.ensures

pub returns-in-None : goal.returns-in-None
returns-in-None c start =
    alike-none start c.args.list.now.samples.list _
    (ap (λ (n : ℕ). list_at c.args.set_up.now n) (sym (c.list.ensures ∙ ap (λ (l : ListOf). l.list) c.list-list.ensures))
    ∙ sym c.in_ok-found.ensures ∙ c.in-None.is)
