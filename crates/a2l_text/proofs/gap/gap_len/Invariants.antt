use Rattle.std.proofs.Common.{◌≤◌, ◌-◌, length, drop}
use Rattle.a2l_text.specs.Gaps.{Skips}
use Rattle.a2l_text.proofs.gap.gap_len.Given as goal

-- what has been passed over is a gap
abbrev pub invariant-loop-at : goal.invariant-loop-at
invariant-loop-at l = record { within : l.at ≤ length l.text; gap : Skips l.text (drop l.at l.text) }

abbrev pub decreases-loop-at : goal.decreases-loop-at
decreases-loop-at l = length l.text - l.at
