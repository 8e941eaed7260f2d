use Rattle.frame_ring.specs.States.{take_state}
use Rattle.slave_outbox.proofs.HeadLemmas.{list_below}
use Rattle.slave_outbox.proofs.laying.take_first.Goals as goal

pub passes-requires : goal.passes-requires
passes-requires c = list_below c.args.head (take_state c.args.end.now) c.in-Sample.list c.in-Sample.packets c.in-Sample.len c.requires.head c.in-Sample.is
