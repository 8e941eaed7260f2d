use Rattle.std.proofs.Common.{◌≡◌, ◌+◌, ◌++◌, length, take}
use Rattle.xcp_base.specs.Copied.{copied_at}
use Rattle.xcp_base.proofs.put.put_rest.Given as goal

-- what the spans so far copy stands in front of the place
abbrev pub invariant-loop-offset : goal.invariant-loop-offset
invariant-loop-offset g l =
    (l.at ≡ l.from + length (copied_at l.bytes g.row.N (take l.offset-index l.offsets)))
    × (take l.at l.cells ≡ take l.from l.fn.cells ++ copied_at l.bytes g.row.N (take l.offset-index l.offsets))
    × (length l.cells ≡ length l.fn.cells)
