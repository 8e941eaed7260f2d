-- The bins so far are joined.
use Rattle.std.proofs.Common.{ℕ, List}
use Rattle.curve_picture.specs.Curves.{IsKept, IsRowOf, drawn}
use Rattle.curve_picture.specs.Values.{Seen}
use Rattle.curve_picture.proofs.WholeLemmas.{has_one_of}
use Rattle.curve_picture.proofs.row.Row.whole.Given as goal

abbrev pub invariant-loop-bin : goal.invariant-loop-bin
invariant-loop-bin l =
    (width : ℕ) → (seen : List Seen) → IsRowOf width l.self seen → IsKept l.whole (drawn (has_one_of width l.bin-index) seen)
