use Rattle.std.proofs.Common.{◌≡◌}
use Rattle.capture_recording.proofs.slave.Slave.hear_flow.Given as goal

abbrev pub invariant-fetches : goal.invariant-fetches
invariant-fetches g l = l.self.address ≡ l.fn.self.address
