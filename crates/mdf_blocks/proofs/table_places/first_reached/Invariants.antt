use Rattle.std.proofs.Common.{◌≡◌, false, take}
use Rattle.std.specs.Float.Ieee.{le}
use Rattle.std.specs.List.{AllByRecursion}
use Rattle.mdf_blocks.proofs.table_places.first_reached.Given as goal

-- the places so far end below the number
abbrev pub invariant-loop-i : goal.invariant-loop-i
invariant-loop-i l = AllByRecursion (λ p. le l.least p.greatest ≡ false) (take l.i l.places)
