use Rattle.std.proofs.Common.{subst}
use Rattle.slave.specs.Inner.{OpensAll}
use Rattle.slave.specs.Standing.{SlaveState}
use Rattle.slave.proofs.PreparingLemmas.{opens-anyhow}
use Rattle.slave.proofs.slave.Slave.open_measurement.Goals as goal

-- it was opened over the new plan, with the new page
pub returns-clause-ok : goal.returns-clause-ok
returns-clause-ok c =
    let s = c.self.inside in
    let v : SlaveState = record { session = s.session; outbox = s.outbox; channels = s.channels; plan = s.plan; number = s.number; account = s.account; acts = s.acts; next = s.next } in
    let b = c.open_channels.new.self in
    subst (λ (x : SlaveState). OpensAll x b) c.self.view_is
    (opens-anyhow v b c.in-Ok.plan c.page_over-page.result
    (subst (λ o. OpensAll (record v { plan = c.in-Ok.plan; outbox = o }) b) c.in-Ok-set_page.ensures.ok c.in_default-open_channels.ensures.ok))
