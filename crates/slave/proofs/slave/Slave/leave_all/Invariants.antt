use Rattle.slave.specs.Inner.{LeavesFirst}
use Rattle.slave.proofs.slave.Slave.leave_all.Given as goal

-- the first so many were left
abbrev pub invariant-loop-i : goal.invariant-loop-i
invariant-loop-i l = LeavesFirst l.i l.fn.self l.self
