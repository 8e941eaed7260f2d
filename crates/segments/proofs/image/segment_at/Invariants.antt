-- bytes lie in none of the segments so far
use Rattle.std.proofs.Common.{◌≡◌, ◌<◌, ℕ, false}
use Rattle.segments.specs.Image.{lies_in}
use Rattle.segments.proofs.image.segment_at.Given as goal

abbrev pub invariant-loop-i : goal.invariant-loop-i
invariant-loop-i l = (k : ℕ) → k < l.i → lies_in l.channel l.segments l.start l.end k ≡ false
