use Rattle.std.proofs.Common.{◌≡◌, ◌++◌, take}
use Rattle.mdf_blocks.specs.Numbers.{reals}
use Rattle.mdf_blocks.proofs.conversion_blocks.push_reals.Given as goal

-- the floats so far stand behind what was there
abbrev pub invariant-loop-value : goal.invariant-loop-value
invariant-loop-value l = l.out.items ≡ l.fn.out.items ++ reals (take l.value-index l.values)
