use Rattle.std.proofs.Common.{◌≡◌, ◌+◌, ◌++◌, length, drop, take}
use Rattle.xcp_base.proofs.put.put_number.Given as goal

-- the bytes so far stand behind those in front of the place, and those behind all N are as before
abbrev pub invariant-loop-k : goal.invariant-loop-k
invariant-loop-k g l =
    (take (l.start + l.k) l.cells ≡ take l.start l.fn.cells ++ take l.k l.bytes)
    × (drop (l.start + g.row.N) l.cells ≡ drop (l.start + g.row.N) l.fn.cells)
    × (length l.cells ≡ length l.fn.cells)
