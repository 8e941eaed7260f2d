use Rattle.std.proofs.Common.{ap, subst, sym, ◌∙◌}
use Rattle.std.proofs.lemmas.Bool.{false≢true}
use Rattle.session.specs.Standing.{SessionStandsAfter}
use Rattle.slave.proofs.slave.Slave.is_idle.Goals as goal

pub returns-clause-busy : goal.returns-clause-busy
returns-clause-busy c = λ is past stands none.
    let some = c.is_empty.ensures.some is in
    let shown = subst (λ s. SessionStandsAfter s past) (sym (ap (λ s. s.session) c.self.view_is)) stands in
    false≢true (sym (none some.0 some.1) ∙ sym (c.running.ensures.value past shown some.0 some.1) ∙ some.2)
