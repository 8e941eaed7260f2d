use Rattle.std.proofs.Common.{◌+◌, sym, subst, arith, rules}
use Rattle.frame_page.specs.Inner.{IsWithinNext}
use Rattle.frame_page.proofs.SentLemmas.{blocks_front, one_more}
use Rattle.frame_page.proofs.ShownLemmas.{drop_here}
use Rattle.frame_page.proofs.sending.whole_units.Goals as goal

pub returns-then-left-unit-clause-within : goal.returns-then-left-unit-clause-within
returns-then-left-unit-clause-within g c =
    subst (IsWithinNext c.loop-i.left) (sym (drop_here c.args.units.now.items c.loop-i.i c.in-Some.unit.now (search rules))) c.if-left-unit.true

pub overflow_add-blocks : goal.overflow_add-blocks
overflow_add-blocks g c =
    let us = c.args.units.now.items in
    omega (arith, c.requires.few, c.loop-i.invariant.blocks, (one_more us c.loop-i.i c.in-Some.unit.now (search rules)).blocks, blocks_front (c.loop-i.i + 1) us)

pub loop-i-preserved : goal.loop-i-preserved
loop-i-preserved g c =
    let more = one_more c.args.units.now.items c.loop-i.i c.in-Some.unit.now (search rules) in
    record {
      blocks = omega (arith, c.loop-i.invariant.blocks, more.blocks);
      left = omega (arith, c.loop-i.invariant.left, more.frames, c.if-left-unit.false);
    }
