use Rattle.std.proofs.Common.{◌≡◌}
use Rattle.mdf_groups.specs.Times.{power}
use Rattle.mdf_groups.proofs.times.power.Given as goal

-- the power so far
abbrev pub invariant-loop-factor : goal.invariant-loop-factor
invariant-loop-factor l = l.out ≡ power l._factor
