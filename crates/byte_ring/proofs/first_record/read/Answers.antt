use Rattle.std.proofs.Common.{sym, ◌∙◌}
use Rattle.std.proofs.lemmas.Bool.{false≢true}
use Rattle.byte_ring.proofs.FrontLemmas.{tells_whether}
use Rattle.byte_ring.proofs.first_record.read.Goals as goal

-- the item is ready
pub returns-then-front-clause-value : goal.returns-then-front-clause-value
returns-then-front-clause-value c =
    let v = tells_whether c.args.consumer.now c.args.front.now c.requires.ready (λ no_item. absurd (false≢true (sym no_item ∙ c.if-front.true))) in
    (λ t. v.0 c.if-front.true, λ some. sym c.if-front.true ∙ v.1 some)

pub returns-then-not-step-clause-value : goal.returns-then-not-step-clause-value
returns-then-not-step-clause-value c =
    tells_whether c.step.new.consumer c.step.new.front c.step.ensures.ready (c.step.ensures.ends c.if-not-step.true)
