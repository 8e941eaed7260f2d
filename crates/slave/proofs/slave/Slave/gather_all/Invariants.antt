use Rattle.std.proofs.Common.{◌≡◌, ◌*◌}
use Rattle.slave.specs.Inner.{Collects, GathersFirst}
use Rattle.slave.proofs.slave.Slave.gather_all.Given as goal

-- so it is at the event channels so far
abbrev pub invariant-loop-c : goal.invariant-loop-c
invariant-loop-c l = record {
  collects : Collects (2 * l.c) l.fn.self l.self;
  first : GathersFirst l.c l.fn.ends.items l.fn.self l.self;
  stay : l.ends.items ≡ l.fn.ends.items;
}
