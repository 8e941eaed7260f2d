use Rattle.std.proofs.Common.{refl, sym, ap, ◌∙◌, length, true≢false}
use Rattle.rtrb.specs.Ring.{known_free, sent}
use Rattle.hand_over.proofs.EndLemmas.{borrower-looked, fetched, positive}
use Rattle.hand_over.proofs.PlaceLemmas.{fetches}
use Rattle.hand_over.proofs.borrower.Borrower.fetch.Goals as goal

pub try_pop_as-requires-clause-rule : goal.try_pop_as-requires-clause-rule
try_pop_as-requires-clause-rule g c =
    let b = c.self.invariant.1 in
    fetches c.self.inside.pass.id _ b.lends_not b.fetches

-- nothing changed but what is known to be free
pub invariant_of-self : goal.invariant_of-self
invariant_of-self g c =
    let looked = c.is_full.ensures.looked in (
      c.self.invariant.0,
      borrower-looked c.self.inside.pass c.self.inside.pass (sent c.self.inside.giving)
          (sent c.is_full.new.self) (known_free c.self.inside.giving)
          (known_free c.is_full.new.self) refl refl looked.1 looked.2 c.self.invariant.1,
    )

pub invariant_of-self-2 : goal.invariant_of-self-2
invariant_of-self-2 g c =
    let q = c.try_pop_as.ensures.queue in (
      (q.0 ∙ c.self.invariant.0.0, q.2 ∙ c.self.invariant.0.1),
      fetched _ _ _ _ _ _ c.try_pop_as.result c.self.invariant.1
          (ap (λ b. length b.fetched) c.self.view_is ∙ c.requires.none_held
          ∙ sym (ap (λ b. length b.gave) c.self.view_is))
          c.is_full.ensures.looked.1
          (positive _ λ none.
          true≢false (sym (c.is_full.ensures.value.1 none) ∙ c.if-is_full.false)) q.0 c.try_pop_as.ensures.rule,
    )
