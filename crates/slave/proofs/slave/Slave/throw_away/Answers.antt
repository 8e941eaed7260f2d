use Rattle.std.proofs.Common.{subst, sym, ap}
use Rattle.slave_outbox.specs.Outboxes.{StandsAfter}
use Rattle.slave.specs.Standing.{SlaveState}
use Rattle.slave.proofs.DiscardingLemmas.{throws-away}
use Rattle.slave.proofs.slave.Slave.throw_away.Goals as goal

pub returns-clause-discards : goal.returns-clause-discards
returns-clause-discards c =
    throws-away c.args.self.now c.leave_all.new.self _ c.leave_all.ensures.leaves
    (ap (λ (s : SlaveState). record s { outbox = c.discard.new.self }) c.self.view_is)
    (λ page sent wait stands. c.discard.ensures.stands page sent wait (subst (λ (s : SlaveState). StandsAfter s.outbox page sent wait) (sym c.self.view_is) stands))
