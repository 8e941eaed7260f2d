use Rattle.std.proofs.Common.{take as first, arith, ap, subst, sym}
use Rattle.slave.specs.Inner.{AreSets}
use Rattle.slave.proofs.PreparingLemmas.{are-front, can-opened, front-many, starts-opened}
use Rattle.slave.proofs.slave.Slave.start_opened.Goals as goal

pub start_checked-requires-clause-checked : goal.start_checked-requires-clause-checked
start_checked-requires-clause-checked c =
    can-opened c.args.self.now _ c.args.lists (first c.len.result c.sets_of-sets.result) c.self.view_is c.requires.opened
    (are-front c.self.inside.session c.args.lists c.sets_of-sets.result c.len.result (subst (λ s. AreSets s c.args.lists c.sets_of-sets.result) (sym (ap (λ s. s.session) c.self.view_is)) c.sets_of-sets.ensures.sets))

pub returns : goal.returns
returns c =
    let are = are-front c.self.inside.session c.args.lists c.sets_of-sets.result c.len.result (subst (λ s. AreSets s c.args.lists c.sets_of-sets.result) (sym (ap (λ s. s.session) c.self.view_is)) c.sets_of-sets.ensures.sets) in
    record {
      starts =
          starts-opened c.args.self.now _ c.start_checked.new.self c.args.lists (first c.len.result c.sets_of-sets.result) c.self.view_is are
          (front-many c.len.result _ _ c.sets_of-sets.result c.len.ensures.value c.sets_of-sets.ensures.many (omega (arith, c.len.ensures.value, c.len.ensures.limit)))
          (can-opened c.args.self.now _ c.args.lists (first c.len.result c.sets_of-sets.result) c.self.view_is c.requires.opened are) c.start_checked.ensures.starts;
    }
