use Rattle.tasks.proofs.TurnLemmas.{some-with}
use Rattle.tasks.proofs.link.taken_of.Goals as goal

pub take-requires : goal.take-requires
take-requires g c = c.requires.left c.in-Some.away c.in-Some.is

pub returns-in-Some-clause-back : goal.returns-in-Some-clause-back
returns-in-Some-clause-back g c =
    some-with (λ back t. (c.in-Some.away, c.in-Some.is, t)) c.take.result c.take.ensures.back
