use Rattle.std.proofs.Common.{sym, ap, ◌∙◌, arith}
use Rattle.a2l_text.specs.Fronts.{ends_plain}
use Rattle.a2l_text.proofs.FrontLemmas.{up_to_at, up_to_end, plain_ends}
use Rattle.a2l_text.proofs.fronts.plain_len.Goals as goal

-- the first place that ends the word
pub returns-then-ends_plain-clause-plain : goal.returns-then-ends_plain-clause-plain
returns-then-ends_plain-clause-plain c =
    up_to_at ends_plain c.args.text.now c.loop-at.at (omega arith) c.loop-at.invariant
    (ap ends_plain (sym c.behind.ensures) ∙ (sym c.ends_plain.ensures ∙ c.if-ends_plain.true))

-- no place ends the word, so it ends with the text
pub returns-clause-plain : goal.returns-clause-plain
returns-clause-plain c =
    up_to_end ends_plain c.args.text.now (λ k h. c.loop-at.invariant k (omega arith)) plain_ends
