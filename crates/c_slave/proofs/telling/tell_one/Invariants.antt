use Rattle.c_slave.specs.Ends.{HasLines}
use Rattle.c_slave.specs.Measurements.{IsLineOf}
use Rattle.c_slave.proofs.telling.tell_one.Given as goal

-- the lists so far have their lines
abbrev pub invariant-loop-l : goal.invariant-loop-l
invariant-loop-l l = HasLines (IsLineOf l.account l.number) l.l l.fn.lines l.lines
