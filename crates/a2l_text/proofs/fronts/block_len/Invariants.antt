use Rattle.std.proofs.Common.{◌≡◌, ℕ, ◌<◌, false, drop}
use Rattle.a2l_text.specs.Fronts.{ends_block}
use Rattle.a2l_text.proofs.fronts.block_len.Given as goal

-- no earlier place ends the comment
abbrev pub invariant-loop-at : goal.invariant-loop-at
invariant-loop-at l = (k : ℕ) → k < l.at → ends_block (drop k l.text) ≡ false
