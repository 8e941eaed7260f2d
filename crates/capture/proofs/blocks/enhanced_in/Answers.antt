use Rattle.std.proofs.Common.{◌≡◌, arith, refl, subst, sym, ◌∙◌}
use Rattle.std.proofs.lemmas.Option.{none-some, same_Some}
use Rattle.capture.specs.Blocks.{IsEnhanced}
use Rattle.capture.proofs.blocks.enhanced_in.Goals as goal

-- it is too short
pub returns-then-block-lt32-clause-none : goal.returns-then-block-lt32-clause-none
returns-then-block-lt32-clause-none c = λ _ i p at is. omega (arith, is.long, c.if-block-lt32.true)

-- its interface isn't there
pub returns-in_default-clause-none : goal.returns-in_default-clause-none
returns-in_default-clause-none c = λ _ i p at is. none-some i (sym c.in_default.is ∙ c.interface_of.ensures ∙ at)

pub returns-in-Some-enhanced_of-clause-ok : goal.returns-in-Some-enhanced_of-clause-ok
returns-in-Some-enhanced_of-clause-ok c = (
  c.in-Some.interface,
  sym c.interface_of.ensures ∙ c.in-Some.is,
  c.in-Some-enhanced_of.ensures.some,
)

-- it is no packet of this interface, so of none
pub returns-in-None-clause-none : goal.returns-in-None-clause-none
returns-in-None-clause-none c = λ _ i p at is.
    let same : i ≡ c.in-Some.interface = same_Some i c.in-Some.interface (sym at ∙ sym c.interface_of.ensures ∙ c.in-Some.is) in
    c.in-None.ensures.none refl p (subst (λ j. IsEnhanced c.args.order c.args.block.now j p) same is)
