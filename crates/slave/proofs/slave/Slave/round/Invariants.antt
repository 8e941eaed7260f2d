use Rattle.std.proofs.Common.{◌≤◌, min}
use Rattle.slave.specs.Inner.{KeepsOlder}
use Rattle.slave.specs.Taking.{TakesItems}
use Rattle.slave.proofs.FairLemmas.{RoundSoFar}
use Rattle.slave.proofs.RoundLemmas.{IsQuiet}
use Rattle.slave.proofs.slave.Slave.round.Given as goal

-- one item of a ring was taken at most, and of those from `begin` on, if one was known; and where none was, nothing is known at the rings so far
abbrev pub invariant-loop-c : goal.invariant-loop-c
invariant-loop-c l = record {
  takes : TakesItems l.c l.fn.self l.self;
  from : min l.begin l.len ≤ l.c;
  within : l.c ≤ l.len;
  older : KeepsOlder l.fn.self l.self;
  so_far : RoundSoFar l.fn.self l.self l.begin l.c;
  quiet : IsQuiet l.fn.self l.self (min l.begin l.len) l.c;
}
