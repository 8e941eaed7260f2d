use Rattle.std.proofs.Common.{sym, ap, ◌∙◌, length, ◌++◌, ◌∷◌, []}
use Rattle.rtrb.specs.Ring.{sent}
use Rattle.hand_over.specs.Lines.{lefts}
use Rattle.hand_over.proofs.EndLemmas.{gave, gives-more, has-room, lefts-append, may-come, same-name}
use Rattle.hand_over.proofs.PlaceLemmas.{shows}
use Rattle.hand_over.proofs.borrower.Borrower.give.Goals as goal

pub another-shown-requires-clause-rule : goal.another-shown-requires-clause-rule
another-shown-requires-clause-rule g c = shows c.self.inside.pass.id _

pub push_reserved-requires : goal.push_reserved-requires
push_reserved-requires g c =
    let q = c.another-shown.ensures.queue in
    let last = ap (λ b. b.fetched) c.self.view_is ∙ c.requires.last in
    let many = c.requires.many ∙ sym (ap (λ b. length b.gave) c.self.view_is) in (
      (has-room _ _ _ _ _ c.self.invariant.1 last many).1,
      may-come g.R.Rule.leaves _ c.another-shown.result _ _ c.args.left _ _ c.self.invariant.1 last
          many c.requires.by_rule
          (q.1.0 ∙ ap (λ q. q.table.shared.table_id) c.deref.ensures ∙ sym c.self.invariant.0.0)
          q.1.1
          c.another-shown.ensures.rule.1,
    )

pub invariant_of-self : goal.invariant_of-self
invariant_of-self g c =
    let q = c.another-shown.ensures.queue.0 in
    let last = ap (λ b. b.fetched) c.self.view_is ∙ c.requires.last in
    let many = c.requires.many ∙ sym (ap (λ b. length b.gave) c.self.view_is) in (
      (q.0 ∙ c.self.invariant.0.0, q.2 ∙ c.self.invariant.0.1),
      gave _ _ c.another-shown.result _ _ _ _ c.args.left c.self.invariant.1
          (has-room _ _ _ _ _ c.self.invariant.1 last many).0 q.0
          c.another-shown.ensures.rule.0 c.push_reserved.ensures.sent.0,
    )

pub returns : goal.returns
returns g c =
    gives-more c.args.self.now _ c.args.left
    (same-name c.self.inside.giving.end c.push_reserved.new.self.end
    c.push_reserved.ensures.ring.0 ∙ ap (λ b. b.ring) c.self.view_is)
    (ap (λ v. v.fetched) c.another-shown.ensures.rule.0 ∙ ap (λ b. b.fetched) c.self.view_is)
    (ap lefts c.push_reserved.ensures.sent.0 ∙ lefts-append (sent c.self.inside.giving) _
    ∙ ap (λ b. b.gave ++ c.args.left ∷ []) c.self.view_is)
