use Rattle.std.proofs.Common.{◌≡◌, ℕ, ◌<◌, ◌+◌, ◌++◌, drop, length, take}
use Rattle.std.specs.Prelude.{All}
use Rattle.xcp_base.specs.Copied.{AreSpansIn, AreStretches, copied_from}
use Rattle.xcp_base.proofs.put.put_stretches.Given as goal

-- the stretches to come are those of the rest of the spans, and what these copy is still to be
-- written
abbrev pub invariant-loop-stretch : goal.invariant-loop-stretch
invariant-loop-stretch l =
    let more = drop l.stretch-index l.stretches in
    AreStretches more l.rest
    × AreSpansIn l.memory more l.rest
    × (l.at + length (copied_from l.memory more l.rest) ≡ l.from + length (copied_from l.memory l.stretches l.offsets))
    × (take l.at l.cells ++ copied_from l.memory more l.rest ≡ take l.from l.fn.cells ++ copied_from l.memory l.stretches l.offsets)
    × (All (λ (b : ℕ). b < 256) (copied_from l.memory more l.rest) → All (λ (b : ℕ). b < 256) (copied_from l.memory l.stretches l.offsets))
    × (length l.cells ≡ length l.fn.cells)
