-- the segments so far
use Rattle.std.proofs.Common.{◌≡◌}
use Rattle.segments.specs.Image.{image_start}
use Rattle.segments.proofs.image.image_start.Given as goal

abbrev pub invariant-loop-i : goal.invariant-loop-i
invariant-loop-i l = l.start ≡ image_start l.segments l.i
