use Rattle.std.proofs.Common.{sym, ap, ◌∙◌, arith}
use Rattle.a2l_text.specs.Fronts.{ends_block}
use Rattle.a2l_text.proofs.FrontLemmas.{up_to_at, never_at, block_ends}
use Rattle.a2l_text.proofs.fronts.block_len.Goals as goal

-- the first place that ends the comment
pub returns-then-ends_block-clause-block : goal.returns-then-ends_block-clause-block
returns-then-ends_block-clause-block c =
    let here = ap ends_block (sym c.behind.ensures) ∙ (sym c.ends_block.ensures ∙ c.if-ends_block.true) in
    (up_to_at ends_block c.args.text.now c.loop-at.at (omega arith) c.loop-at.invariant here, block_ends c.args.text.now c.loop-at.at here)

-- no place ends the comment
pub returns-clause-none : goal.returns-clause-none
returns-clause-none c =
    never_at ends_block c.args.text.now (λ k h. c.loop-at.invariant k (omega arith))
