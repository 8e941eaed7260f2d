use Rattle.capture_recording.specs.Slaves.{Ends}
use Rattle.capture_recording.proofs.slave.Slave.give_up_holes.Given as goal

abbrev pub invariant-connections : goal.invariant-connections
invariant-connections g l = Ends l.fn.self l.self
