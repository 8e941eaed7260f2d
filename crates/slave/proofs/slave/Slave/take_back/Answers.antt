use Rattle.std.proofs.Common.{ap, subst, sym, arith}
use Rattle.std.specs.Prelude.{Some}
use Rattle.slave.specs.Finishing.{GivesBack}
use Rattle.slave.specs.Inner.{counting}
use Rattle.slave.specs.declared.limits.TheConstants.{PER_ACT}
use Rattle.slave.proofs.FinishingLemmas.{gives-counted}
use Rattle.slave.proofs.slave.Slave.take_back.Goals as goal

pub returns-clause-back : goal.returns-clause-back
returns-clause-back c =
    let found = c.in_ok-finished.finished in
    let same = c.back_at.ensures.acts_stay in
    subst (λ s. GivesBack c.args.self.now (counting s PER_ACT) c.args.c (Some found)) (sym c.self.view_is)
    (gives-counted c.args.self.now c.back_at.new.self c.args.c found
    (let fits = c.self.invariant.1 in let view = ap (λ s. s.acts) c.self.view_is in omega (arith, fits, view, same)) same c.in_ok-finished.ensures.back)
