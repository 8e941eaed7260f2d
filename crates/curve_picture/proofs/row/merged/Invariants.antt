-- The bins so far were put to their slots.
use Rattle.std.proofs.Common.{◌≡◌, length}
use Rattle.curve_picture.specs.Inner.{merged}
use Rattle.curve_picture.proofs.row.merged.Given as goal

abbrev pub invariant-loop-k : goal.invariant-loop-k
invariant-loop-k l = (l.wide ≡ merged l.bins l.from l.k) × (length l.wide ≡ 1024)
