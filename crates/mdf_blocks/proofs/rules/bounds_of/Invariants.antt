use Rattle.std.proofs.Common.{◌≡◌, take}
use Rattle.mdf_blocks.specs.Rules.{bounds_of}
use Rattle.mdf_blocks.proofs.rules.bounds_of.Given as goal

-- the bounds of the places so far
abbrev pub invariant-loop-place : goal.invariant-loop-place
invariant-loop-place l = l.bounds.items ≡ bounds_of (take l.place-index l.places)
