-- as many ODTs stay, and the list doesn't run
use Rattle.daq_store.specs.contracts.store.Store.{the_view}
use Rattle.daq_store.proofs.InvariantLemmas.{clear_keeps}
use Rattle.daq_store.proofs.store.Store.put_cleared.Goals as goal

pub invariant_of-self : goal.invariant_of-self
invariant_of-self c =
    let inside = rw (← c.self.view_is) at c.requires in
    rw c.clear.ensures (clear_keeps (the_view c.self.inside) c.args.list c.state_mut-state.result.now c.self.invariant inside c.state_mut-state.ensures.value)
