use Rattle.slave_lending.proofs.ByteLemmas.{sends}
use Rattle.slave_lending.proofs.lending_slave.LendingSlave.sent.Goals as goal

pub returns : goal.returns
returns c =
    let sent = c.sent.ensures in
    sends c.self.inside.slave c.self.inside.stream c.self.inside.slots.items c.args.self.now c.self.view_is c.sent.new.self
    sent.sends sent.none_shown sent.acts_stay sent.next_stays sent.profile_stays
