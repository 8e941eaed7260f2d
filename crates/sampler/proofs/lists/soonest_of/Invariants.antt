use Rattle.std.proofs.Common.{take}
use Rattle.sampler.specs.Inner.Fits.{NoneDueBefore}
use Rattle.sampler.proofs.lists.soonest_of.Given as goal

-- none of the lists so far is due before
abbrev pub invariant-loop-place : goal.invariant-loop-place
invariant-loop-place l = NoneDueBefore l.soonest (take l.place l.tracks)
