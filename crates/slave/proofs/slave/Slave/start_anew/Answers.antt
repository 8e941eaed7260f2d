use Rattle.slave.proofs.CollectingLemmas.{collected-in-vain, collected-prepare}
use Rattle.slave.proofs.PreparingLemmas.{if-err-so, on-ok}
use Rattle.slave.proofs.slave.Slave.start_anew.Goals as goal

pub returns-clause-ok : goal.returns-clause-ok
returns-clause-ok c =
    on-ok c.start_new.result _ _ (λ p. collected-prepare c.args.self.now c.collect.new.self c.start_new.new.self c.args.lists c.collect.ensures.collects c.requires.some p) c.start_new.ensures.ok

pub returns-clause-err : goal.returns-clause-err
returns-clause-err c =
    if-err-so c.start_new.result _ _ (λ code v. collected-in-vain c.args.self.now c.collect.new.self c.start_new.new.self c.args.lists code c.collect.ensures.collects v) c.start_new.ensures.err
