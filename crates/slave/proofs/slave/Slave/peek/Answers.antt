use Rattle.slave.proofs.SendingLemmas.{shown-of}
use Rattle.slave.proofs.WeightLemmas.{fits-of}
use Rattle.slave.proofs.slave.Slave.peek.Goals as goal

pub returns-clause-stays : goal.returns-clause-stays
returns-clause-stays c =
    shown-of c.args.self.now _ c.peek.new.self c.self.view_is (fits-of c.args.self.now _ c.self.view_is c.self.invariant.1) c.peek.ensures.rest_stays
