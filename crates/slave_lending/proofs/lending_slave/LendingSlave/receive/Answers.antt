use Rattle.session.specs.Standing.{given_by}
use Rattle.std.proofs.Common.{sym, ◌∙◌}
use Rattle.slave_lending.proofs.ByteLemmas.{receives-lines, refuses-if, takes-if}
use Rattle.slave_lending.proofs.lending_slave.LendingSlave.receive.Goals as goal

-- the event channels are on their lines still
pub invariant_of-self : goal.invariant_of-self
invariant_of-self c =
    let so = c.receive.ensures in (
      c.self.invariant.0
          ∙ sym (receives-lines c.self.inside.slave c.self.inside.stream c.self.inside.slots.items c.args.self.now c.self.view_is
          c.receive.new.self c.receive.new.slave (given_by c.args.clock c.args.memory.now) c.args.bytes.now c.receive.result so.ok so.bad so.closed_stays),
      c.self.invariant.1,
      c.self.invariant.2,
    )

pub returns-clause-ok : goal.returns-clause-ok
returns-clause-ok c =
    let so = c.receive.ensures in
    takes-if c.self.inside.slave c.self.inside.stream c.self.inside.slots.items c.args.self.now c.self.view_is
    c.receive.new.self c.receive.new.slave (given_by c.args.clock c.args.memory.now) c.args.bytes.now c.receive.result so.ok so.within so.all so.ends so.stays_open so.no_room so.closed

pub returns-clause-bad : goal.returns-clause-bad
returns-clause-bad c =
    let so = c.receive.ensures in
    refuses-if c.self.inside.slave c.self.inside.stream c.self.inside.slots.items c.args.self.now c.self.view_is
    c.receive.new.self c.receive.new.slave (given_by c.args.clock c.args.memory.now) c.args.bytes.now c.receive.result so.bad so.closed_stays
