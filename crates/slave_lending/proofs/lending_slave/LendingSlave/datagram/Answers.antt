use Rattle.session.specs.Standing.{given_by}
use Rattle.slave_lending.proofs.ByteLemmas.{hears-bytes}
use Rattle.slave_lending.proofs.lending_slave.LendingSlave.datagram.Goals as goal

pub returns : goal.returns
returns c =
    hears-bytes c.self.inside.slave c.self.inside.stream c.self.inside.slots.items c.args.self.now c.self.view_is c.datagram.new.slave
    (given_by c.args.clock c.args.memory.now) c.args.bytes.now c.datagram.result c.datagram.ensures.hears c.datagram.ensures.within c.datagram.ensures.all
