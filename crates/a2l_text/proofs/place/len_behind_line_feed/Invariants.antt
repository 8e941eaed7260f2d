use Rattle.std.proofs.Common.{◌≡◌, ◌≤◌, ◌+◌, ℕ, length, take, not}
use Rattle.std.specs.List.{suffix_len}
use Rattle.a2l_text.specs.Places.{is_line_feed}
use Rattle.a2l_text.proofs.place.len_behind_line_feed.Given as goal

-- no line feed stands from the place on
abbrev pub invariant-loop-at : goal.invariant-loop-at
invariant-loop-at l = record {
  within : l.at ≤ length l.text;
  behind : l.at + suffix_len (λ (b : ℕ). not (is_line_feed b)) l.text ≡ length l.text + suffix_len (λ (b : ℕ). not (is_line_feed b)) (take l.at l.text);
}

abbrev pub decreases-loop-at : goal.decreases-loop-at
decreases-loop-at l = l.at
