use Rattle.std.proofs.Common.{length, ap, sym, ◌∙◌, arith}
use Rattle.slave.specs.Openings.{capacities_in, capacities_of}
use Rattle.slave.proofs.NewLemmas.{channels-many, new-stands, tasks-are}
use Rattle.slave.proofs.OpenedLemmas.{capacities-many}
use Rattle.slave.proofs.slave.Slave.open.Goals as goal

pub invariant_of-slave : goal.invariant_of-slave
invariant_of-slave c =
    let many = channels-many c.len.result c.in-Ok-new-2.channels c.in-Ok-new-2.tasks.items c.in-Ok-new-2.ensures in
    (omega (arith, many, c.len.ensures), omega arith, c.in-Ok.ensures.value ∙ ap capacities_in c.deref.ensures.value ∙ ap capacities_of (sym c.in-Ok-open.ensures.profile))

pub returns-clause-stands : goal.returns-clause-stands
returns-clause-stands c =
    new-stands c.args.profile c.in-Ok-open.session c.in-Ok-new.outbox c.in-Ok-new-2.channels c.in-Ok-new-2.tasks.items c.none.result c.new-3.result _ c.new-3.ensures.stands c.none.ensures c.in-Ok-open.ensures.profile c.in-Ok-open.ensures.fresh c.in-Ok-new.ensures.stands
    c.in-Ok-new-2.ensures (omega (arith, c.len.ensures, ap length c.in-Ok.ensures.value, capacities-many c.deref.result.now, ap length c.deref.ensures.value))

pub returns-clause-channels : goal.returns-clause-channels
returns-clause-channels c =
    let many = channels-many c.len.result c.in-Ok-new-2.channels c.in-Ok-new-2.tasks.items c.in-Ok-new-2.ensures in
    omega (arith, many, c.len.ensures, ap length c.in-Ok.ensures.value, capacities-many c.deref.result.now, ap length c.deref.ensures.value)

pub returns-clause-tasks : goal.returns-clause-tasks
returns-clause-tasks c = tasks-are c.len.result c.in-Ok-new-2.channels c.in-Ok-new-2.tasks.items c.in-Ok-new-2.ensures
