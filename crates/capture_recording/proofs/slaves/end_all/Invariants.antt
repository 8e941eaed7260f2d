use Rattle.capture_recording.specs.Slaves.{AllEnd}
use Rattle.capture_recording.proofs.slaves.end_all.Given as goal

abbrev pub invariant-slaves : goal.invariant-slaves
invariant-slaves g l = AllEnd l.fn.slaves.items l.slaves.items
