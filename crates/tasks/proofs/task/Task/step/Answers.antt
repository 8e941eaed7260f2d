use Rattle.std.proofs.Common.{Some, subst}
use Rattle.tasks.specs.Inner.{ObeysAs}
use Rattle.tasks.proofs.TurnLemmas.{ended-steps}
use Rattle.tasks.proofs.task.Task.step.Goals as goal

-- behind an order to end what is left was given back
pub returns-in-Some-End-clause-some : goal.returns-in-Some-End-clause-some
returns-in-Some-End-clause-some g c is =
    ended-steps g.S.SendEnd g.S.End.RingEnd _ _ _
    (subst (λ o. ObeysAs g.S.SendEnd g.S.End.RingEnd c.args.self.now c.obey.new.self (Some o))
    c.in-Some-End.field-0-is c.in-Some-End.ensures.obeys)
    c.give_back.ensures
