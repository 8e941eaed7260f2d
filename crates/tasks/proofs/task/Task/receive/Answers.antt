use Rattle.std.proofs.Common.{ap, length, subst, sym, ◌∙◌}
use Rattle.tasks.specs.Inner.{HoldsLast}
use Rattle.tasks.proofs.WayLemmas.{come-here}
use Rattle.tasks.proofs.task.Task.receive.Goals as goal

pub invariant_of-self-2 : goal.invariant_of-self-2
invariant_of-self-2 g c =
    let none = subst (λ held. HoldsLast g.S.SendEnd g.S.End.RingEnd c.self.inside.line.fetched
    c.self.inside.line.gave held) (ap (λ t. t.held) c.self.view_is ∙ c.requires.none)
    c.self.invariant in
    record {
      before = c.self.inside.line.fetched;
      went = c.in-Some.handed;
      last = ap (λ b. b.fetched) c.in-Some.ensures.some;
      many = none ∙ sym (ap (λ b. length b.gave) c.in-Some.ensures.some);
      come = come-here g.S.SendEnd g.S.End.RingEnd _ _;
    }
