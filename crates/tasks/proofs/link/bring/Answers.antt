use Rattle.std.proofs.Common.{◌∙◌, inl, inr, refl, sym}
use Rattle.tasks.proofs.TurnLemmas.{some-with}
use Rattle.tasks.proofs.link.bring.Goals as goal

pub returns-in-Some-clause-some : goal.returns-in-Some-clause-some
returns-in-Some-clause-some g c =
    let (a, is, f) = c.in-Some.ensures.some in
    (a, is, inl (f, refl))

pub returns-clause-some : goal.returns-clause-some
returns-clause-some g c =
    some-with (λ left n. (n.0, sym (c.in_default.ensures.none refl) ∙ n.1, inr n.2)) c.arrived_of.result
    c.arrived_of.ensures.some
