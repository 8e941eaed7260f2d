use Rattle.std.proofs.Common.{◌<◌, ◌∙◌, length, arith}
use Rattle.c_slave.specs.Measurements.{IsOlderLine}
use Rattle.c_slave.proofs.CloseLemmas.{lines-more}
use Rattle.c_slave.proofs.telling.tell_older.Goals as goal

-- the next list has its line
pub loop-l-preserved : goal.loop-l-preserved
loop-l-preserved c =
    let there : c.loop-l.l < length c.loop-l.lines = omega (arith, c.loop-l-test.true, c.requires.room, c.loop-l.invariant.as_many) in
    let line = rw c.at-list.ensures at c.older_line.ensures.line in
    rw (c.index.ensures.value ∙ c.at-list.ensures) (lines-more (IsOlderLine c.args.account.now) c.loop-l.l c.args.lines.now c.loop-l.lines c.older_line.result there line c.loop-l.invariant)
