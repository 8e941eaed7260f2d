-- The rows so far were doubled.
use Rattle.std.proofs.Common.{◌≡◌, ◌++◌, map, take, drop}
use Rattle.curve_picture.specs.Inner.{doubled_row}
use Rattle.curve_picture.proofs.picture.double_all.Given as goal

abbrev pub invariant-loop-row : goal.invariant-loop-row
invariant-loop-row l = l.rows ≡ map (doubled_row l.from l.count) (take l.row-index l.initial.rows) ++ drop l.row-index l.initial.rows
