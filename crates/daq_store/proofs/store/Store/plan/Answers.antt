-- a plan is there exactly where the list is there and ready, and is what is set of it
use Rattle.std.proofs.Common.{◌≡◌, ◌↔◌, ◌∙◌, ◌<◌, length, true, false, arith, IsSome}
use Rattle.std.proofs.lemmas.Grind.{common_steps}
use Rattle.daq_store.proofs.StandingLemmas.{IsReadyAt, conf_after, ready_after}
use Rattle.daq_store.proofs.store.Store.plan.Goals as goal

pub returns-in_err-list-clause-ready_after : goal.returns-in_err-list-clause-ready_after
returns-in_err-list-clause-ready_after c = λ calls h.
    let ready : IsSome c.from_residual.result ↔ IsReadyAt c.args.self.now c.args.list = grind (arith, common_steps) in
    ready_after c.args.self.now calls c.args.list h ready

pub returns-then-ready-clause-ready_after : goal.returns-then-ready-clause-ready_after
returns-then-ready-clause-ready_after c = λ calls h.
    let ready : (true ≡ true) ↔ IsReadyAt c.args.self.now c.args.list = grind (arith, common_steps) in
    ready_after c.args.self.now calls c.args.list h ready

pub returns-then-ready-clause-value_after : goal.returns-then-ready-clause-value_after
returns-then-ready-clause-value_after c = λ calls h.
    let inside : c.args.list < length c.args.self.now.lists = grind (arith, common_steps) in
    c.in_ok-list.ensures.conf ∙ conf_after c.args.self.now calls c.args.list h inside

pub returns-else-ready-clause-ready_after : goal.returns-else-ready-clause-ready_after
returns-else-ready-clause-ready_after c = λ calls h.
    let ready : (false ≡ true) ↔ IsReadyAt c.args.self.now c.args.list = grind (arith, common_steps) in
    ready_after c.args.self.now calls c.args.list h ready
