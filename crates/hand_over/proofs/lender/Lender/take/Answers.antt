use Rattle.std.proofs.Common.{sym, ap, ◌∙◌, subst, refl, ◌++◌, ◌∷◌, []}
use mathlib.Core.List.{IsPrefix}
use Rattle.rtrb.specs.Ring.{known_items, received}
use Rattle.hand_over.specs.Inner.{IsLender}
use Rattle.hand_over.specs.Lines.{Comes}
use Rattle.hand_over.proofs.EndLemmas.{came, comes-back, left-of, same-name}
use Rattle.hand_over.proofs.PlaceLemmas.{sees}
use Rattle.hand_over.proofs.lender.Lender.take.Goals as goal

-- nothing was received, and nothing else changed
pub invariant_of-self : goal.invariant_of-self
invariant_of-self g c = (
  c.self.invariant.0,
  c.self.invariant.1,
  subst (λ xs. IsLender c.self.inside.pass xs) (sym c.in_default.ensures.empty.0)
      c.self.invariant.2,
)

-- what came shows a pass of the place that the line began with
pub absorb-requires-clause-queue : goal.absorb-requires-clause-queue
absorb-requires-clause-queue g c =
    let l = c.self.invariant.2 in
    let of = left-of g.R.Rule.leaves c.self.inside.pass c.in-Back.shown (received c.self.inside.coming)
    c.in-Back.left l.line
    (subst (λ x. Comes g.R.Rule.leaves (received c.self.inside.coming) x) c.in-Back.is
    c.in-Ok.ensures.ok.2) in
    let place = c.self.invariant.0.0 ∙ ap (λ q. q.table.shared.table_id) (sym c.deref.ensures) in
    ((place, c.self.invariant.0.1), (of.one_place ∙ l.line.one_place ∙ place, of.none_out))

pub absorb-requires-clause-rule : goal.absorb-requires-clause-rule
absorb-requires-clause-rule g c =
    let l = c.self.invariant.2 in
    let of = left-of g.R.Rule.leaves c.self.inside.pass c.in-Back.shown (received c.self.inside.coming)
    c.in-Back.left l.line
    (subst (λ x. Comes g.R.Rule.leaves (received c.self.inside.coming) x) c.in-Back.is
    c.in-Ok.ensures.ok.2) in
    sees c.self.inside.pass.id _ c.in-Back.shown.id _ l.lends l.fetches_not of.lends_not
    of.fetches_not

pub invariant_of-self-2 : goal.invariant_of-self-2
invariant_of-self-2 g c =
    let l = c.self.invariant.2 in
    let of = left-of g.R.Rule.leaves c.self.inside.pass c.in-Back.shown (received c.self.inside.coming)
    c.in-Back.left l.line
    (subst (λ x. Comes g.R.Rule.leaves (received c.self.inside.coming) x) c.in-Back.is
    c.in-Ok.ensures.ok.2) in
    let same = c.learn_as.ensures.queue.0 in
    let before = c.absorb.ensures.queue in
    let one = same.0 ∙ before.0 in (
      (one ∙ c.self.invariant.0.0, same.2 ∙ before.2 ∙ c.self.invariant.0.1),
      c.self.invariant.1,
      came g.R.Rule.leaves c.self.inside.pass c.learn_as.new.pass c.in-Back.shown
          (received c.self.inside.coming) (received c.pop.new.self) c.in-Back.left l of
          (c.in-Ok.ensures.ok.0 ∙ ap (λ x. received c.self.inside.coming ++ x ∷ []) c.in-Back.is)
          (c.learn_as.ensures.queue.1 ∙ c.absorb.ensures.rule)
          (subst (λ v. IsPrefix v.fetched v.lent) c.absorb.ensures.rule c.learn_as.ensures.rule.1)
          one,
    )

pub returns-clause-some : goal.returns-clause-some
returns-clause-some g c =
    let l = c.self.invariant.2 in
    let of = left-of g.R.Rule.leaves c.self.inside.pass c.in-Back.shown (received c.self.inside.coming)
    c.in-Back.left l.line
    (subst (λ x. Comes g.R.Rule.leaves (received c.self.inside.coming) x) c.in-Back.is
    c.in-Ok.ensures.ok.2) in
    let v = c.self.view_is in
    comes-back g.R.Rule.leaves c.self.inside.pass c.learn_as.new.pass c.in-Back.shown
    (received c.self.inside.coming) (received c.pop.new.self) c.in-Back.left l of
    (c.in-Ok.ensures.ok.0 ∙ ap (λ x. received c.self.inside.coming ++ x ∷ []) c.in-Back.is)
    (c.learn_as.ensures.queue.1 ∙ c.absorb.ensures.rule)
    (subst (λ v. IsPrefix v.fetched v.lent) c.absorb.ensures.rule c.learn_as.ensures.rule.1)
    c.args.self.now _ (known_items c.self.inside.coming) (known_items c.pop.new.self)
    (sym (ap (λ l. l.out) v)) (sym (ap (λ l. l.came) v)) (sym (ap (λ l. l.coming) v)) refl refl refl
    (same-name c.self.inside.coming.end c.pop.new.self.end c.in-Ok.ensures.ring.0
    ∙ ap (λ l. l.ring) v)
    (subst (λ x. IsPrefix (known_items c.self.inside.coming) (x ∷ known_items c.pop.new.self))
    c.in-Back.is c.in-Ok.ensures.ok.1)
