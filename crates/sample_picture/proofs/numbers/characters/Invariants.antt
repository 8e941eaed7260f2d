-- One character for each digit so far, and a comma after each third.
use Rattle.std.proofs.Common.{◌≤◌, ◌+◌, ◌/◌, ◌-◌}
use Rattle.sample_picture.proofs.numbers.characters.Given as goal

abbrev pub invariant-loop-place : goal.invariant-loop-place
invariant-loop-place l = l.count ≤ l.place + (l.place - 1) / 3
