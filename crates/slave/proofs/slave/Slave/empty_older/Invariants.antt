use Rattle.std.proofs.Common.{◌≤◌, ◌-◌}
use Rattle.slave.specs.Inner.{KeepsNewest}
use Rattle.slave.specs.Taking.{TakesItems}
use Rattle.slave.proofs.OlderLemmas.{OlderSoFar}
use Rattle.slave.proofs.slave.Slave.empty_older.Given as goal

-- so many items were taken at most, the ring was looked at so many times, and nothing was taken of the newest part
abbrev pub invariant-loop-taken : goal.invariant-loop-taken
invariant-loop-taken l = record {
  takes : TakesItems l.taken l.fn.self l.self;
  keeps : KeepsNewest l.fn.self l.self;
  looks : OlderSoFar l.taken l.fn.self l.self l.c;
  few : l.taken ≤ 1024;
}

abbrev pub decreases-loop-taken : goal.decreases-loop-taken
decreases-loop-taken l = 1024 - l.taken
