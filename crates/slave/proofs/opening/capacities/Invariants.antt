use Rattle.std.proofs.Common.{◌≡◌, take}
use Rattle.slave.specs.Openings.{capacities_in}
use Rattle.slave.proofs.opening.capacities.Given as goal

-- the capacities so far
abbrev pub invariant-loop-c : goal.invariant-loop-c
invariant-loop-c l = l.caps.items ≡ capacities_in (take l.c l.events)
