use Rattle.std.proofs.Common.{◌≤◌}
use Rattle.slave_channels.proofs.ring_ends.all_of.Given as goal

-- never more than there may be
abbrev pub invariant-loop-plan : goal.invariant-loop-plan
invariant-loop-plan l = l.all ≤ l.most
