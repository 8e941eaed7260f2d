use Rattle.std.proofs.Common.{◌≡◌, ℕ, ◌<◌, false, drop}
use Rattle.a2l_text.specs.Fronts.{ends_plain}
use Rattle.a2l_text.proofs.fronts.plain_len.Given as goal

-- no earlier place ends the word
abbrev pub invariant-loop-at : goal.invariant-loop-at
invariant-loop-at l = (k : ℕ) → k < l.at → ends_plain (drop k l.text) ≡ false
