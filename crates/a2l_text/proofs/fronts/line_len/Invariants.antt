use Rattle.std.proofs.Common.{◌≡◌, ℕ, ◌<◌, false, drop}
use Rattle.a2l_text.specs.Fronts.{ends_line}
use Rattle.a2l_text.proofs.fronts.line_len.Given as goal

-- no earlier place ends the line
abbrev pub invariant-loop-at : goal.invariant-loop-at
invariant-loop-at l = (k : ℕ) → k < l.at → ends_line (drop k l.text) ≡ false
