use Rattle.std.proofs.Common.{length, ap, arith}
use Rattle.std.proofs.lemmas.List.{length-map}
use Rattle.slave_lending.specs.Slots.{with_task}
use Rattle.slave_lending.proofs.OpenLemmas.{opened-lines, opened-with}
use Rattle.slave_lending.proofs.lending_slave.LendingSlave.open.Goals as goal

-- the tasks are on the lines of the event channels, and there is room for what is left of each
pub invariant_of-result : goal.invariant_of-result
invariant_of-result c =
    let tasks = c.in_ok-slave.tasks in
    let slots = c.in-Ok-slots_of.slots in (
      opened-lines c.in_ok-slave.slave tasks.items slots.items c.in_ok-slave.ensures.tasks c.in-Ok-slots_of.ensures,
      c.in-Ok.ensures.items,
      omega (arith, ap length c.in-Ok-slots_of.ensures, length-map tasks.items with_task, c.in-Ok.ensures.capacity, c.len.ensures, tasks.ok.0),
    )

-- the tasks that were made are in their slots
pub returns-clause-opened : goal.returns-clause-opened
returns-clause-opened c =
    opened-with c.args.profile c.in_ok-slave.slave c.new-stream.result c.in_ok-slave.tasks.items c.in-Ok-slots_of.slots.items
    c.in_ok-slave.ensures.profile c.in_ok-slave.ensures.stands c.in_ok-slave.ensures.channels c.in_ok-slave.ensures.tasks c.new-stream.ensures.fresh c.new-stream.ensures.stays_open c.new-stream.ensures.max_cto c.in-Ok-slots_of.ensures
