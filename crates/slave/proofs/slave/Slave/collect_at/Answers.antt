use Rattle.std.proofs.Common.{subst, arith}
use Rattle.slave.specs.Inner.{TakesOne}
use Rattle.slave.proofs.CollectingLemmas.{collects-more, collects-within}
use Rattle.slave.proofs.GatheringLemmas.{all-none, all-two}
use Rattle.slave.proofs.slave.Slave.collect_at.Goals as goal

pub returns-then-collect_one-clause-collects : goal.returns-then-collect_one-clause-collects
returns-then-collect_one-clause-collects c =
    collects-more 1 1 c.args.self.now c.collect_one.new.self c.collect_one-then-collect_one.new.self c.collect_one.ensures.collects c.collect_one-then-collect_one.ensures.collects

-- two came back, so that nothing is left; or one, and then none
pub returns-then-collect_one-clause-all : goal.returns-then-collect_one-clause-all
returns-then-collect_one-clause-all c =
    all-two c.args.c c.collect_one-then-collect_one.result c.args.self.now c.collect_one.new.self c.collect_one-then-collect_one.new.self
    (subst (λ r. TakesOne c.args.c r c.args.self.now c.collect_one.new.self) c.if-collect_one.true c.collect_one.ensures.one)
    c.collect_one.ensures.collects.session c.collect_one.ensures.collects.as_many c.collect_one-then-collect_one.ensures.collects.as_many c.collect_one-then-collect_one.ensures.one

-- none came back: so many fewer than two, and nothing is left
pub returns-else-collect_one-clause-collects : goal.returns-else-collect_one-clause-collects
returns-else-collect_one-clause-collects c =
    collects-within 1 2 c.args.self.now c.collect_one.new.self (omega arith) c.collect_one.ensures.collects

pub returns-else-collect_one-clause-all : goal.returns-else-collect_one-clause-all
returns-else-collect_one-clause-all c =
    all-none c.args.c c.args.self.now c.collect_one.new.self
    (subst (λ r. TakesOne c.args.c r c.args.self.now c.collect_one.new.self) c.if-collect_one.false c.collect_one.ensures.one)
