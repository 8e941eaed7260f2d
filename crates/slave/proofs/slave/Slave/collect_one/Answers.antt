use Rattle.std.specs.Prelude.{Some}
use Rattle.slave.proofs.CollectingLemmas.{collects-one}
use Rattle.slave.proofs.slave.Slave.collect_one.Goals as goal

pub returns-clause-collects : goal.returns-clause-collects
returns-clause-collects c =
    collects-one c.args.self.now c.back_at.new.self c.args.c (Some c.in-Some.part) c.in-Some.ensures.back c.in-Some.ensures.acts_stay c.in-Some.ensures.next_stays c.number.ensures.finished
