use Rattle.std.proofs.Common.{◌≡◌, ◌+◌, ◌++◌, length, map, take}
use Rattle.std.specs.List.{range_with_len}
use Rattle.frame_writer.specs.Frame.{unnumbered}
use Rattle.copy_plan.specs.Frames.{frames_upto}
use Rattle.copy_plan.specs.Memory.{image_in}
use Rattle.copy_plan.specs.Packet.{packet}
use Rattle.copy_plan.proofs.plan.CopyPlan.lay_frames.Given as goal

-- the frames of the ODTs so far
abbrev pub invariant-loop-k : goal.invariant-loop-k
invariant-loop-k l =
    (length l.out ≡ length l.fn.out)
    × (l.end ≡ l.at + frames_upto l.self l.k)
    × (take l.end l.out ≡ take l.at l.fn.out ++ unnumbered (map (packet l.self (image_in l.self.channel l.self.segments l.memory) l.stamp l.overload) (range_with_len 0 l.k)))
