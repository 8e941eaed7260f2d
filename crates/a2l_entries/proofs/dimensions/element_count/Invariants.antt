-- as many as so far, in each place along the dimensions that are left
use Rattle.std.proofs.Common.{◌≡◌, drop}
use Rattle.a2l_entries.specs.Dimensions.{count_from}
use Rattle.a2l_entries.proofs.dimensions.element_count.Given as goal

abbrev pub invariant-loop-dim : goal.invariant-loop-dim
invariant-loop-dim l = count_from l.count (drop l.dim-index l.dims) ≡ count_from 1 l.dims
