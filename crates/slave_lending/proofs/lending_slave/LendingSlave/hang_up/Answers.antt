use Rattle.slave_lending.proofs.ByteLemmas.{hangs-up}
use Rattle.slave_lending.proofs.lending_slave.LendingSlave.hang_up.Goals as goal

pub returns : goal.returns
returns c =
    let up = c.hang_up.ensures in
    hangs-up c.self.inside.slave c.self.inside.stream c.self.inside.slots.items c.args.self.now c.self.view_is c.hang_up.new.self c.new-self-inside.result
    up.hangs_up up.none_waits up.none_shown up.acts_stay up.next_stays up.profile_stays c.new-self-inside.ensures.fresh c.new-self-inside.ensures.stays_open c.new-self-inside.ensures.max_cto
