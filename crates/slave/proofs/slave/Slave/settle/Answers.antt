use Rattle.std.proofs.Common.{ap, subst}
use Rattle.slave_channels.specs.Calls.{StopsAll}
use Rattle.slave_channels.specs.Each.{IsEach}
use Rattle.slave.proofs.SettleLemmas.{ends-there, goes-there}
use Rattle.slave.proofs.slave.Slave.settle.Goals as goal

pub returns-then-is_empty-clause-settles : goal.returns-then-is_empty-clause-settles
returns-then-is_empty-clause-settles c =
    ends-there _ c.stop_all.new.self c.end.new.self c.args.before c.args.now c.difference.result c.difference.ensures
    (subst (λ xs. IsEach (λ k. StopsAll c.difference.result) xs c.stop_all.new.self) (ap (λ s. s.channels) c.self.view_is) c.stop_all.ensures.orders)
    (c.is_empty.ensures.none c.if-is_empty.true) c.end.ensures.ends

pub returns-else-is_empty-clause-settles : goal.returns-else-is_empty-clause-settles
returns-else-is_empty-clause-settles c =
    goes-there _ c.stop_all.new.self c.args.before c.args.now c.difference.result c.difference.ensures
    (subst (λ xs. IsEach (λ k. StopsAll c.difference.result) xs c.stop_all.new.self) (ap (λ s. s.channels) c.self.view_is) c.stop_all.ensures.orders)
    (c.is_empty.ensures.some c.if-is_empty.false)
