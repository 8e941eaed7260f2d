use Rattle.std.proofs.Common.{take}
use Rattle.sampler.specs.Sets.{IsSetOf}
use Rattle.sampler.proofs.lists.set_of.Given as goal

abbrev pub invariant-loop-place : goal.invariant-loop-place
invariant-loop-place l = IsSetOf l.set (take l.place l.plans)
