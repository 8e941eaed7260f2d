use Rattle.std.proofs.Common.{refl, sym, ap, ◌∙◌, length, subst, ◌<◌}
use Rattle.rtrb.specs.Ring.{received}
use Rattle.hand_over.proofs.EndLemmas.{lent, lent-out}
use Rattle.hand_over.proofs.PlaceLemmas.{lends}
use Rattle.hand_over.proofs.lender.Lender.lend.Goals as goal

pub try_push_as-requires-clause-rule : goal.try_push_as-requires-clause-rule
try_push_as-requires-clause-rule g c items views room h at =
    let l = c.self.invariant.2 in
    let one = ap (λ q. q.cap) c.deref.ensures ∙ c.self.invariant.1 in
    lends c.self.inside.pass.id _ c.args.value l.lends l.fetches_not items views
    (subst (λ n. length items < n) one room) h at

pub invariant_of-self : goal.invariant_of-self
invariant_of-self g c =
    let q = c.try_push_as.ensures.queue in (
      (q.0 ∙ c.self.invariant.0.0, q.2 ∙ c.self.invariant.0.1),
      c.self.invariant.1,
      lent _ _ _ c.args.value c.try_push_as.result c.self.invariant.2 q.0
          c.try_push_as.ensures.rule,
    )

pub returns-clause-ok : goal.returns-clause-ok
returns-clause-ok g c =
    lent-out c.self.inside.pass c.try_push_as.new.pass (received c.self.inside.coming)
    c.args.self.now _ c.args.value c.try_push_as.result c.self.invariant.2
    (sym (ap (λ l. l.out) c.self.view_is)) (ap (λ l. l.ring) c.self.view_is)
    (ap (λ l. l.came) c.self.view_is) (ap (λ l. l.coming) c.self.view_is) refl
    c.try_push_as.ensures.rule
