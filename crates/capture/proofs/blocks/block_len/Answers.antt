use Rattle.std.proofs.Common.{◌%◌, ap, ◌∙◌, arith}
use Rattle.capture.proofs.BlockLemmas.{block-len}
use Rattle.capture.proofs.blocks.block_len.Goals as goal

-- a block has at least twelve bytes
pub returns-then-len-lt-SHORTEST-clause-err : goal.returns-then-len-lt-SHORTEST-clause-err
returns-then-len-lt-SHORTEST-clause-err c more unit behind same b =
    omega (arith, block-len c.args.order c.args.bytes.now more unit behind same c.requires b, b.long, c.number_at-len.ensures.value, c.if-len-lt-SHORTEST.true)

-- in fours
pub returns-then-len-ne0-clause-err : goal.returns-then-len-ne0-clause-err
returns-then-len-ne0-clause-err c more unit behind same b =
    c.if-len-ne0.true (ap (λ n. n % 4) (c.number_at-len.ensures.value ∙ block-len c.args.order c.args.bytes.now more unit behind same c.requires b) ∙ b.fours)

-- and at most as many as are read
pub returns-then-len-gt-MAX_UNIT-clause-err : goal.returns-then-len-gt-MAX_UNIT-clause-err
returns-then-len-gt-MAX_UNIT-clause-err c more unit behind same b =
    omega (arith, block-len c.args.order c.args.bytes.now more unit behind same c.requires b, c.number_at-len.ensures.value, c.if-len-gt-MAX_UNIT.true)
