use Rattle.std.proofs.Common.{◌≡◌, ◌+◌, ◌++◌, length, take}
use Rattle.xcp_base.specs.Copied.{copied_at, in_fours}
use Rattle.xcp_base.proofs.put.put_fours.Given as goal

-- what the fours so far copy stands in front of the place
abbrev pub invariant-loop-four : goal.invariant-loop-four
invariant-loop-four g l =
    (l.at ≡ l.from + length (copied_at l.bytes g.row.N (in_fours (take l.four-index l.fours))))
    × (take l.at l.cells ≡ take l.from l.fn.cells ++ copied_at l.bytes g.row.N (in_fours (take l.four-index l.fours)))
    × (length l.cells ≡ length l.fn.cells)
