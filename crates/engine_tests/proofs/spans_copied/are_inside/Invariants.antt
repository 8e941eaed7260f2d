use Rattle.std.proofs.Common.{ℕ, ◌<◌, get_or}
use Rattle.xcp_base.specs.Copied.{IsSpanAt}
use Rattle.engine_tests.proofs.spans_copied.are_inside.Given as goal

-- the spans so far are so
abbrev pub invariant-loop-offset : goal.invariant-loop-offset
invariant-loop-offset l = (k : ℕ) → (d : ℕ) → k < l.offset-index → IsSpanAt 32 l.size (get_or l.offsets k d)
