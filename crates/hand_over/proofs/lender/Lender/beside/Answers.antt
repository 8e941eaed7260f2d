use Rattle.std.proofs.Common.{sym, ap, ◌∙◌, length}
use Rattle.crossbeam_queue.specs.Passes.{view}
use Rattle.rtrb.specs.Ring.{known_free, received, sent}
use Rattle.hand_over.specs.Lines.{lefts}
use Rattle.hand_over.proofs.EndLemmas.{borrower-looked, first-out, lefts-append, lender-looked}
use Rattle.hand_over.proofs.PlaceLemmas.{learns, sees, shows}
use Rattle.hand_over.proofs.lender.Lender.beside.Goals as goal

pub another-before-requires-clause-rule : goal.another-before-requires-clause-rule
another-before-requires-clause-rule g c = shows c.self.inside.pass.id _

pub another-shown-requires-clause-rule : goal.another-shown-requires-clause-rule
another-shown-requires-clause-rule g c = shows c.borrower.inside.pass.id _

pub absorb-requires-clause-rule : goal.absorb-requires-clause-rule
absorb-requires-clause-rule g c =
    let l = c.self.invariant.2 in
    let mine = c.another-before.ensures.rule.0 in
    let theirs = c.another-shown.ensures.rule.1 in
    sees c.another-before.new.pass.id _ c.another-shown.result.id _
    (ap (λ v. v.lends) mine ∙ l.lends) (ap (λ v. v.fetches) mine ∙ l.fetches_not)
    (ap (λ v. v.lends) theirs) (ap (λ v. v.fetches) theirs)

pub learn_as-requires-clause-rule : goal.learn_as-requires-clause-rule
learn_as-requires-clause-rule g c =
    learns c.absorb.new.pass.id _ (ap (λ v. v.lends) c.absorb.ensures.rule)

pub absorb-requires-2-clause-rule : goal.absorb-requires-2-clause-rule
absorb-requires-2-clause-rule g c =
    let mine = c.learn_as.ensures.queue.1 ∙ c.absorb.ensures.rule in
    let before = c.another-before.ensures.rule.1 in
    sees c.learn_as.new.pass.id _ c.another-before.result.id _
    (ap (λ v. v.lends) mine) (ap (λ v. v.fetches) mine)
    (ap (λ v. v.lends) before) (ap (λ v. v.fetches) before)

-- in the end the lender saw as many fetched as before
pub invariant_of-self : goal.invariant_of-self
invariant_of-self g c =
    let first = c.another-before.ensures in
    let more = c.absorb.ensures in
    let learnt = c.learn_as.ensures.queue in
    let last = c.absorb-2.ensures in (
      (
        last.queue.0 ∙ learnt.0.0 ∙ more.queue.0 ∙ first.queue.0.0 ∙ c.self.invariant.0.0,
        last.queue.2 ∙ learnt.0.2 ∙ more.queue.2 ∙ first.queue.0.2 ∙ c.self.invariant.0.1,
      ),
      c.self.invariant.1,
      lender-looked c.self.inside.pass c.absorb-2.new.pass _ _ (received c.self.inside.coming)
          (received c.slots_beside.new.self)
          (last.queue.0 ∙ learnt.0.0 ∙ more.queue.0 ∙ first.queue.0.0) last.rule
          (ap (λ v. v.lent) (learnt.1 ∙ more.rule) ∙ ap (λ v. v.lent) first.rule.0)
          (ap (λ v. v.fetched) first.rule.1) c.slots_beside.ensures.looked.1 c.self.invariant.2,
    )

-- nothing was fetched or given meanwhile
pub invariant_of-borrower : goal.invariant_of-borrower
invariant_of-borrower g c =
    let shown = c.another-shown.ensures in
    let looked = c.slots_beside.ensures.producer in
    let b = c.borrower.invariant in (
      (shown.queue.0.0 ∙ b.0.0, shown.queue.0.2 ∙ b.0.1),
      borrower-looked c.borrower.inside.pass c.another-shown.new.pass
          (sent c.borrower.inside.giving) (sent c.slots_beside.new.producer)
          (known_free c.borrower.inside.giving) (known_free c.slots_beside.new.producer)
          shown.queue.0.0 shown.rule.0 looked.1 looked.2 b.1,
    )

pub returns-clause-all : goal.returns-clause-all
returns-clause-all g c =
    sym (lefts-append (received c.slots_beside.new.self) _) ∙ ap lefts (c.slots_beside.ensures.fifo ∙ c.slots_beside.ensures.producer.1)
    ∙ ap (λ e. e.gave) c.borrower.view_is

-- what the other end shows is the first of what was lent
pub returns-clause-fetched : goal.returns-clause-fetched
returns-clause-fetched g c =
    let v = c.self.view_is in
    first-out (view c.absorb.new.pass) (view c.borrower.inside.pass) (view c.self.inside.pass) _ _
    (length (lefts (received c.self.inside.coming))) _ c.learn_as.ensures.rule.1
    (ap (λ v. v.fetched) c.absorb.ensures.rule ∙ ap (λ v. v.fetched) c.another-shown.ensures.rule.1)
    (ap (λ v. v.lent) c.absorb.ensures.rule ∙ ap (λ v. v.lent) c.another-before.ensures.rule.0)
    (sym (ap (λ b. b.fetched) c.borrower.view_is)) (sym (ap (λ l. l.out) v))
    (sym (ap (λ l. length l.came) v))
