-- the ODTs stay, and the list doesn't run
use Rattle.std.proofs.Common.{◌∙◌}
use Rattle.daq_store.specs.contracts.store.Store.{the_view}
use Rattle.daq_store.proofs.InvariantLemmas.{mode_keeps}
use Rattle.daq_store.proofs.StandingLemmas.{running_at}
use Rattle.daq_store.proofs.store.Store.put_mode.Goals as goal

pub invariant_of-self : goal.invariant_of-self
invariant_of-self c =
    let inside = rw (← c.self.view_is) at c.requires.there in
    let stopped = rw (← c.self.view_is) at c.requires.stopped in
    let channel = rw (← c.self.view_is) at c.requires.channel in
    rw c.set_mode.ensures
    (mode_keeps (the_view c.self.inside) c.args.list c.state_mut-state.result.now c.args.mode c.self.invariant inside c.state_mut-state.ensures.value
    (running_at (the_view c.self.inside) c.args.list c.state_mut-state.result.now inside c.state_mut-state.ensures.value ∙ stopped) channel)
