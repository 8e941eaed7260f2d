-- what was taken away were dimensions of 1
use Rattle.std.proofs.Common.{◌≡◌, length}
use Rattle.a2l_entries.specs.Dimensions.{trimmed}
use Rattle.a2l_entries.proofs.dimensions.trimmed.Given as goal

abbrev pub invariant-loop-last : goal.invariant-loop-last
invariant-loop-last l = trimmed l.left.items ≡ trimmed l.fn.dims.items

abbrev pub decreases-loop-last : goal.decreases-loop-last
decreases-loop-last l = length l.left.items
