use Rattle.std.proofs.Common.{◌≤◌, ◌++◌, [], ◌∷◌, take}
use Rattle.copy_plan.specs.Inner.Stretched.{ArePlaced}
use Rattle.copy_plan.proofs.spans.stretches_of.Given as goal

-- the stretches so far and the one in hand are those of the spans so far
abbrev pub invariant-loop-span : goal.invariant-loop-span
invariant-loop-span l =
    (l.stretch.count ≤ l.span-index)
    × ArePlaced l.channel l.segments (record { spans = take l.span-index l.spans; stretches = l.stretches.items ++ l.stretch ∷ []; offsets = l.offsets.items })
