use Rattle.c_slave.specs.Ends.{HasLines, IsLineIn}
use Rattle.c_slave.proofs.telling.tell.Given as goal

-- the lists so far have their lines
abbrev pub invariant-loop-l : goal.invariant-loop-l
invariant-loop-l l = HasLines (IsLineIn l.account) l.l l.fn.lines l.lines
