use Rattle.std.proofs.Common.{◌≡◌, take as first, length, arith, subst}
use Rattle.slave_channels.specs.Calls.{HasFull, HaveRoom}
use Rattle.slave.specs.Standing.{SlaveState}
use Rattle.slave.proofs.PreparingLemmas.{are-front, front-many}
use Rattle.slave.proofs.slave.Slave.can_open.Goals as goal

pub returns-clause-yes : goal.returns-clause-yes
returns-clause-yes c = λ is. record {
  sets = first c.len.result c.sets_of-ready.result;
  all = c.all.result;
  are_all = c.all.ensures;
  are = are-front c.args.self.now.session c.all.result c.sets_of-ready.result c.len.result c.sets_of-ready.ensures.sets;
  as_many = subst (λ (s : SlaveState). length (first c.len.result c.sets_of-ready.result) ≡ length s.channels) c.self.view_is
      (front-many c.len.result _ _ c.sets_of-ready.result c.len.ensures.value c.sets_of-ready.ensures.many (omega (arith, c.len.ensures.value, c.len.ensures.limit)));
  have = subst (λ (s : SlaveState). HaveRoom (first c.len.result c.sets_of-ready.result) s.channels) c.self.view_is (c.can_open.ensures.yes is);
}

pub returns-clause-no : goal.returns-clause-no
returns-clause-no c = λ is. record {
  sets = first c.len.result c.sets_of-ready.result;
  all = c.all.result;
  are = are-front c.args.self.now.session c.all.result c.sets_of-ready.result c.len.result c.sets_of-ready.ensures.sets;
  none = subst (λ (s : SlaveState). HasFull (first c.len.result c.sets_of-ready.result) s.channels) c.self.view_is (c.can_open.ensures.no is);
}
