use Rattle.std.proofs.Common.{ap, sym, ◌∙◌, ◌++◌, ◌∷◌, []}
use Rattle.a2l_entries.specs.Dimensions.{trimmed}
use Rattle.a2l_entries.proofs.DimensionLemmas.{trimmed-one, trimmed-other}
use Rattle.a2l_entries.proofs.dimensions.trimmed.Goals as goal

-- the last dimension isn't 1, so all of them count
pub returns-then-last-ne1 : goal.returns-then-last-ne1
returns-then-last-ne1 c =
    c.in_ok-push.ensures.items
    ∙ sym (trimmed-other c.pop.new.self.items c.in-Some.last c.if-last-ne1.true)
    ∙ ap trimmed (sym c.in-Some.ensures.items) ∙ c.loop-last.invariant

-- a dimension of 1 is taken away
pub loop-last-preserved : goal.loop-last-preserved
loop-last-preserved c =
    sym (trimmed-one c.pop.new.self.items)
    ∙ ap (λ k. trimmed (c.pop.new.self.items ++ k ∷ [])) (sym c.if-last-ne1.false)
    ∙ ap trimmed (sym c.in-Some.ensures.items) ∙ c.loop-last.invariant
