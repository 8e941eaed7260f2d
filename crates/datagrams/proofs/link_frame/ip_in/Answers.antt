use Rattle.std.proofs.Common.{subst}
use Rattle.datagrams.specs.Links.{CarriesIp}
use Rattle.datagrams.proofs.link_frame.ip_in.Goals as goal

pub returns-in-Cooked1-clause-none : goal.returns-in-Cooked1-clause-none
returns-in-Cooked1-clause-none c none packet carries = c.behind_head.ensures.none none packet (subst (λ l. CarriesIp l c.args.frame.now packet) c.in-Cooked1.is carries)

pub returns-in-Cooked2-clause-none : goal.returns-in-Cooked2-clause-none
returns-in-Cooked2-clause-none c none packet carries = c.behind_head-in-Cooked2.ensures.none none packet (subst (λ l. CarriesIp l c.args.frame.now packet) c.in-Cooked2.is carries)

pub returns-in-Null-clause-none : goal.returns-in-Null-clause-none
returns-in-Null-clause-none c none packet carries = c.in_null.ensures.none none packet (subst (λ l. CarriesIp l c.args.frame.now packet) c.in-Null.is carries)

pub returns-in-Loop-clause-none : goal.returns-in-Loop-clause-none
returns-in-Loop-clause-none c none packet carries = c.in_loop.ensures.none none packet (subst (λ l. CarriesIp l c.args.frame.now packet) c.in-Loop.is carries)
