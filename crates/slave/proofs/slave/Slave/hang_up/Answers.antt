use Rattle.slave.proofs.DiscardingLemmas.{hung-up-and-thrown}
use Rattle.slave.proofs.slave.Slave.hang_up.Goals as goal

pub returns-clause-hangs_up : goal.returns-clause-hangs_up
returns-clause-hangs_up c =
    hung-up-and-thrown c.args.self.now c.disconnect.new.self c.discard.new.self c.disconnect.ensures.disconnects c.disconnect.ensures.outbox_stays c.disconnect.ensures.profile_stays c.discard.ensures.discards
