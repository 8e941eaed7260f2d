use Rattle.std.proofs.Common.{sym, ap}
use Rattle.rtrb.specs.Ring.{received}
use Rattle.hand_over.proofs.EndLemmas.{recalled-out}
use Rattle.hand_over.proofs.PlaceLemmas.{recalls}
use Rattle.hand_over.proofs.lender.Lender.recall.Goals as goal

pub try_pop_as-requires-clause-rule : goal.try_pop_as-requires-clause-rule
try_pop_as-requires-clause-rule g c =
    let l = c.self.invariant.2 in
    recalls c.self.inside.pass.id _ l.lends l.fetches_not

pub returns-clause-last : goal.returns-clause-last
returns-clause-last g c =
    recalled-out c.self.inside.pass c.try_pop_as.new.pass (received c.self.inside.coming) _ c.try_pop_as.result c.self.invariant.2 (sym (ap (λ l. l.out) c.self.view_is))
    c.try_pop_as.ensures.rule
