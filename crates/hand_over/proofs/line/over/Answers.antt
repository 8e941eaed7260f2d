use Rattle.std.proofs.Common.{◌∙◌, [], ◌∷◌, ◌++◌, ap, sym, true, false}
use Rattle.hand_over.specs.declared.parcel.Parcel.TheVariants.{Begun}
use Rattle.hand_over.specs.Places.{known}
use Rattle.hand_over.proofs.EndLemmas.{begun, borrower-begins, lender-begins}
use Rattle.hand_over.proofs.PlaceLemmas.{parts, shows}
use Rattle.hand_over.proofs.line.over.Goals as goal

pub another-fetches-requires-clause-rule : goal.another-fetches-requires-clause-rule
another-fetches-requires-clause-rule g c =
    let is = c.requires.pass.1 in
    parts c.args.pass.id _ (ap (λ v. v.lends) is) (ap (λ v. v.fetches) is)

pub another-shown-requires-clause-rule : goal.another-shown-requires-clause-rule
another-shown-requires-clause-rule g c = shows c.another-fetches.result.id _

-- a pass of the place is all that came
pub invariant_of-lender : goal.invariant_of-lender
invariant_of-lender g c =
    let fork = c.another-fetches.ensures.queue.0 in
    let line = c.requires.pass in
    let sent = c.slots_beside.ensures.producer.1 ∙ c.push_reserved.ensures.sent.0
    ∙ ap (λ xs. xs ++ Begun c.another-shown.result ∷ []) c.requires.nothing_sent in
    let came = begun _ _ _ _ _ _ _ (c.slots_beside.ensures.looked.1 ∙ c.requires.nothing_received)
    c.slots_beside.ensures.fifo sent c.pop_known.ensures.received.1
    c.pop_known.ensures.received.0 in
    let of = fork.0 ∙ line.0.0 in (
      (of, fork.2 ∙ line.0.1),
      c.requires.capacity,
      lender-begins _ _ _
          (c.another-fetches.ensures.rule.0 ∙ ap (λ v. known true false v.lent []) line.1) came
          (c.another-shown.ensures.queue.1.0 ∙ ap (λ q. q.table.shared.table_id) c.deref-2.ensures
          ∙ sym of),
    )

-- and all that was sent
pub invariant_of-borrower : goal.invariant_of-borrower
invariant_of-borrower g c =
    let fork = c.another-fetches.ensures in
    let same = c.another-shown.ensures.queue in
    let line = c.requires.pass in
    let sent = c.slots_beside.ensures.producer.1 ∙ c.push_reserved.ensures.sent.0
    ∙ ap (λ xs. xs ++ Begun c.another-shown.result ∷ []) c.requires.nothing_sent in
    let one = ap (λ q. q.table.shared.table_id) c.deref.ensures in
    let two = ap (λ q. q.table.shared.table_id) c.deref-2.ensures in
    let of = same.0.0 ∙ fork.queue.1.0 ∙ one in (
      (
        of ∙ ap (λ q. q.table.shared.table_id) (sym c.requires.one_place),
        same.0.2 ∙ fork.queue.1.1,
      ),
      borrower-begins _ _ _ _
          (c.another-shown.ensures.rule.0 ∙ fork.rule.1
          ∙ ap (λ v. known false true [] v.fetched) line.1)
          sent (same.1.0 ∙ two ∙ sym of),
    )
