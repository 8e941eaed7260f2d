use Rattle.std.proofs.Common.{◌*◌}
use Rattle.slave.specs.Inner.{CameBelow, Collects}
use Rattle.slave.proofs.slave.Slave.collect.Given as goal

-- what came back at the event channels so far was taken back
abbrev pub invariant-loop-c : goal.invariant-loop-c
invariant-loop-c l = Collects (2 * l.c) l.fn.self l.self × CameBelow l.c l.self
