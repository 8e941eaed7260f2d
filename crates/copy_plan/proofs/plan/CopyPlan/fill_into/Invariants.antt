use Rattle.std.proofs.Common.{◌≡◌, map}
use Rattle.std.specs.List.{range_with_len}
use Rattle.copy_plan.specs.Memory.{image_in}
use Rattle.copy_plan.specs.Packet.{packet}
use Rattle.copy_plan.proofs.plan.CopyPlan.fill_into.Given as goal

-- the packets of the ODTs so far
abbrev pub invariant-loop-k : goal.invariant-loop-k
invariant-loop-k l = l.sample ≡ map (packet l.self (image_in l.self.channel l.self.segments l.memory) l.stamp l.overload) (range_with_len 0 l.k)
