use Rattle.std.proofs.Common.{refl}
use Rattle.slave.proofs.SendingLemmas.{sent-of}
use Rattle.slave.proofs.WeightLemmas.{fits-of}
use Rattle.slave.proofs.slave.Slave.sent.Goals as goal

pub returns-clause-sends : goal.returns-clause-sends
returns-clause-sends c =
    sent-of c.args.self.now _ c.sent.new.self _ c.self.view_is (fits-of c.args.self.now _ c.self.view_is c.self.invariant.1) refl c.sent.ensures.stands
