use Rattle.std.proofs.Common.{◌≡◌, length}
use Rattle.xcp_base.specs.declared.limits.TheConstants.{MAX_CHANNELS}
use Rattle.slave.proofs.SetsLemmas.{AreBelow}
use Rattle.slave.proofs.slave.Slave.sets_of.Given as goal

-- the sets so far are those of their event channels
abbrev pub invariant-loop-c : goal.invariant-loop-c
invariant-loop-c l = record { many : length l.sets ≡ MAX_CHANNELS; are : AreBelow l.self.session l.lists l.c l.sets }
