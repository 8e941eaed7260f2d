use Rattle.tasks.proofs.TurnLemmas.{some-with}
use Rattle.tasks.proofs.link.finished_of.Goals as goal

pub returns-in-Some-clause-some : goal.returns-in-Some-clause-some
returns-in-Some-clause-some g c =
    some-with (λ left f. (c.in-Some.away, c.in-Some.is, f)) c.finish.result c.finish.ensures.some
