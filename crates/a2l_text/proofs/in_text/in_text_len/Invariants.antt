use Rattle.std.proofs.Common.{◌≤◌, ◌-◌, length, take}
use Rattle.a2l_text.specs.Tokens.{IsInText}
use Rattle.a2l_text.proofs.in_text.in_text_len.Given as goal

-- what has been passed over may stand between quotes
abbrev pub invariant-loop-at : goal.invariant-loop-at
invariant-loop-at l = record { within : l.at ≤ length l.text; inside : IsInText (take l.at l.text) }

abbrev pub decreases-loop-at : goal.decreases-loop-at
decreases-loop-at l = length l.text - l.at
