use Rattle.std.proofs.Common.{◌≡◌, drop, length, take}
use Rattle.xcp_base.proofs.put.bytes_at.Given as goal

-- the bytes read so far are those from the place on
abbrev pub invariant-loop-k : goal.invariant-loop-k
invariant-loop-k g l = (length l.read ≡ g.row.N) × (take l.k l.read ≡ take l.k (drop l.from l.bytes))
