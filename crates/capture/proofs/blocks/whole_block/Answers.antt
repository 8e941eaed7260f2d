use Rattle.std.proofs.Common.{sym, ◌∙◌, arith}
use Rattle.capture.proofs.BlockLemmas.{block-ends, block-len, is-block}
use Rattle.capture.proofs.blocks.whole_block.Goals as goal

-- it isn't there whole
pub returns-then-bytes-len-clause-ok : goal.returns-then-bytes-len-clause-ok
returns-then-bytes-len-clause-ok c = (
  omega (arith, c.if-bytes-len.true),
  c.in_ok-len.ensures.ok.3,
  λ more unit behind same b.
      omega (arith, block-len c.args.order c.args.bytes.now more unit behind same c.requires b, c.in_ok-len.ensures.ok.0),
)

-- its last number isn't its length
pub returns-then-number_at-len-clause-err : goal.returns-then-number_at-len-clause-err
returns-then-number_at-len-clause-err c more unit behind same b =
    let e = c.in_ok-len.ensures.ok in
    c.if-number_at-len.true (c.number_at.ensures.value ∙ block-ends c.args.order c.args.bytes.now more unit behind c.in_ok-len.len same c.requires b e.0 (omega (arith, c.if-bytes-len.false)) e.1)

pub returns-clause-ok : goal.returns-clause-ok
returns-clause-ok c =
    let e = c.in_ok-len.ensures.ok in (
      omega (arith, e.1),
      omega (arith, c.if-bytes-len.false),
      is-block c.args.order c.args.bytes.now c.in_ok-len.len e.0 (omega (arith, c.if-bytes-len.false)) e.1 e.2 (sym c.number_at.ensures.value ∙ c.if-number_at-len.false),
    )
