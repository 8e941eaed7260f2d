use Rattle.slave_lending.proofs.SendingLemmas.{peeks}
use Rattle.slave_lending.proofs.lending_slave.LendingSlave.peek.Goals as goal

-- items were taken, and then shown
pub returns : goal.returns
returns c =
    peeks c.self.view_is c.take.new.self c.peek.new.self c.args.buffer.now c.peek.new.buffer c.peek.result
    c.take.ensures.takes c.take.ensures.through c.take.ensures.fair c.take.ensures.lets_go c.peek.ensures.shows c.peek.ensures.bytes c.peek.ensures.behind c.peek.ensures.stays c.peek.ensures.acts_stay c.peek.ensures.next_stays c.peek.ensures.profile_stays
