use Rattle.std.proofs.Common.{◌≡◌, map, take}
use Rattle.c_slave.specs.Profiles.{segment_in}
use Rattle.c_slave.proofs.profiles.segments_of.Given as goal

-- the segments so far are those that are asked for
abbrev pub invariant-loop-segment : goal.invariant-loop-segment
invariant-loop-segment l = l.made.items ≡ map segment_in (take l.segment-index l.segments)
