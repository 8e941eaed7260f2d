use Rattle.std.proofs.Common.{◌≡◌, length, ap, ◌∙◌, subst, sym, arith}
use Rattle.slave.specs.Inner.{AreSets}
use Rattle.slave.specs.Pages.{page_over}
use Rattle.slave.specs.Plans.{plan_of}
use Rattle.slave.proofs.PreparingLemmas.{are-front, front-many, on-err, on-ok, opens-of, vain-of}
use Rattle.slave.proofs.slave.Slave.open_channels.Goals as goal

pub returns-clause-ok : goal.returns-clause-ok
returns-clause-ok c =
    on-ok c.open.result _ _
    (λ opens.
    opens-of c.args.self.now _ c.open.new.self _ _ _ c.all.result c.all.ensures
    (are-front c.self.inside.session c.all.result c.sets_of-sets.result c.len.result
    (subst (λ s. AreSets s c.all.result c.sets_of-sets.result) (sym (ap (λ s. s.session) c.self.view_is)) c.sets_of-sets.ensures.sets)) c.self.view_is c.store.ensures.value
    (subst (λ s. s.plan ≡ plan_of s.session.store) (sym c.self.view_is) c.requires.plan) (subst (λ s. s.outbox.page ≡ page_over s.session.store) (sym c.self.view_is) c.requires.page) (ap (λ s. s.profile) (sym c.store.ensures.value) ∙ c.store.ensures.profile) (ap length c.deref.ensures.value ∙ c.self.invariant.0)
    (front-many c.len.result _ _ c.sets_of-sets.result c.len.ensures.value c.sets_of-sets.ensures.many (omega (arith, c.len.ensures.value, c.len.ensures.limit))) (c.deref.ensures.value ∙ c.self.invariant.2) opens)
    c.open.ensures.ok

pub returns-clause-err : goal.returns-clause-err
returns-clause-err c =
    on-err c.open.result _ _
    (λ opens.
    vain-of c.args.self.now _ c.open.new.self _ _ _ c.self.view_is c.store.ensures.value
    (subst (λ s. s.plan ≡ plan_of s.session.store) (sym c.self.view_is) c.requires.plan) (subst (λ s. s.outbox.page ≡ page_over s.session.store) (sym c.self.view_is) c.requires.page) (ap (λ s. s.profile) (sym c.store.ensures.value) ∙ c.store.ensures.profile) (ap length c.deref.ensures.value ∙ c.self.invariant.0)
    (front-many c.len.result _ _ c.sets_of-sets.result c.len.ensures.value c.sets_of-sets.ensures.many (omega (arith, c.len.ensures.value, c.len.ensures.limit))) (c.deref.ensures.value ∙ c.self.invariant.2) opens)
    c.open.ensures.err
