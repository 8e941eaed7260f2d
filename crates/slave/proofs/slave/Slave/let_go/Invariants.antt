use Rattle.std.proofs.Common.{◌*◌}
use Rattle.slave.specs.Inner.{KeepsNewest}
use Rattle.slave.specs.Taking.{TakesItems}
use Rattle.slave.proofs.OlderLemmas.{GoneSoFar}
use Rattle.slave.proofs.slave.Slave.let_go.Given as goal

-- at each event channel so many items were taken at most, none of the newest parts, and what the rings so far held is let go
abbrev pub invariant-loop-c : goal.invariant-loop-c
invariant-loop-c l = record {
  takes : TakesItems (1024 * l.c) l.fn.self l.self;
  keeps : KeepsNewest l.fn.self l.self;
  gone : GoneSoFar l.fn.self l.self l.c;
}
