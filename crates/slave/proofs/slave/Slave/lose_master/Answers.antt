use Rattle.std.proofs.Common.{subst}
use Rattle.slave.specs.Inner.{Settles}
use Rattle.slave.proofs.AnsweringLemmas.{hung-up-by}
use Rattle.slave.proofs.slave.Slave.lose_master.Goals as goal

pub returns-clause-loses : goal.returns-clause-loses
returns-clause-loses c =
    hung-up-by c.args.self.now _ c.settle.new.self c.hang_up.new.self c.running-before.result c.self.view_is c.hang_up.ensures.fresh c.hang_up.ensures.profile_stays
    c.running-before.ensures.value (subst (Settles c.self.inside.channels c.settle.new.self.channels c.running-before.result) c.none.ensures c.settle.ensures.settles) c.settle.ensures.rest_stays
