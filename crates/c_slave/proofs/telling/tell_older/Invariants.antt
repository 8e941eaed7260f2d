use Rattle.c_slave.specs.Ends.{HasLines}
use Rattle.c_slave.specs.Measurements.{IsOlderLine}
use Rattle.c_slave.proofs.telling.tell_older.Given as goal

-- the lists so far have their lines
abbrev pub invariant-loop-l : goal.invariant-loop-l
invariant-loop-l l = HasLines (IsOlderLine l.account) l.l l.fn.lines l.lines
