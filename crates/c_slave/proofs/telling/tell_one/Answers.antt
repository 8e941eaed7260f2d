use Rattle.std.proofs.Common.{◌<◌, ◌∙◌, length, arith}
use Rattle.c_slave.specs.Measurements.{IsLineOf}
use Rattle.c_slave.proofs.CloseLemmas.{lines-more}
use Rattle.c_slave.proofs.telling.tell_one.Goals as goal

-- the next list has its line
pub loop-l-preserved : goal.loop-l-preserved
loop-l-preserved c =
    let there : c.loop-l.l < length c.loop-l.lines = omega (arith, c.loop-l-test.true, c.requires.room, c.loop-l.invariant.as_many) in
    let line = rw c.at-list.ensures at c.line_of.ensures in
    rw (c.index.ensures.value ∙ c.at-list.ensures) (lines-more (IsLineOf c.args.account.now c.args.number) c.loop-l.l c.args.lines.now c.loop-l.lines c.line_of.result there line c.loop-l.invariant)
