use Rattle.std.proofs.Common.{◌-◌, ◌+◌, ◌%◌, arith, inl, inr}
use Rattle.capture_tables.proofs.ClockLemmas.{ahead_has}
use Rattle.capture_tables.proofs.unwound.ahead_of.Goals as goal

-- without a wrap between
pub returns-then-from-to-clause-same : goal.returns-then-from-to-clause-same
returns-then-from-to-clause-same c =
    ahead_has c.args.last c.args.ticks c.args.wrap
    (c.args.ticks % c.args.wrap - c.args.last % c.args.wrap) (inl (omega arith))

-- and with one
pub returns-clause-same : goal.returns-clause-same
returns-clause-same c =
    ahead_has c.args.last c.args.ticks c.args.wrap
    (c.args.ticks % c.args.wrap + c.args.wrap - c.args.last % c.args.wrap) (inr (omega arith))
