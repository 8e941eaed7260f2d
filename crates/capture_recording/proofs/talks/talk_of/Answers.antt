use Rattle.std.proofs.Common.{refl}
use Rattle.capture_recording.proofs.talks.talk_of.Goals as goal

pub returns-in_err-from_port-clause-none : goal.returns-in_err-from_port-clause-none
returns-in_err-from_port-clause-none c none talk is = c.in_err-from_port.ensures.none refl is.ports is.has
