use Rattle.std.proofs.Common.{subst, sym}
use Rattle.tasks.specs.Inner.{HoldsLast}
use Rattle.tasks.proofs.WayLemmas.{come-left}
use Rattle.tasks.proofs.task.Task.give_back.Goals as goal

-- it is left of what was fetched last, after all that was done since
pub give-requires : goal.give-requires
give-requires g c =
    let one = subst (λ held. HoldsLast g.S.SendEnd g.S.End.RingEnd c.self.inside.line.fetched
    c.self.inside.line.gave held) (sym c.in-Some.ensures.value) c.self.invariant in
    record {
      before = one.before;
      value = one.went;
      last = one.last;
      many = one.many;
      by_rule = come-left g.S.SendEnd g.S.End.RingEnd _ _ _ _ c.finish.result one.come
          c.finish.ensures.left c.finish.ensures.orders;
    }
