-- the ODTs stay, and a list is started only where it is ready
use Rattle.std.proofs.Common.{◌≡◌}
use Rattle.daq_store.specs.contracts.store.Store.{the_view}
use Rattle.daq_store.specs.Standing.{conf_of}
use Rattle.daq_store.proofs.InvariantLemmas.{start_stop_keeps}
use Rattle.daq_store.proofs.StandingLemmas.{conf_at}
use Rattle.daq_store.proofs.store.Store.put_start_stop.Goals as goal

pub invariant_of-self : goal.invariant_of-self
invariant_of-self c =
    let inside = rw (← c.self.view_is) at c.requires.there in
    let ready = rw (← c.self.view_is) at c.requires.ready in
    let conf : c.state_mut-state.result.now.conf ≡ conf_of (the_view c.self.inside) c.args.list
    = conf_at (the_view c.self.inside) c.args.list c.state_mut-state.result.now c.self.invariant.forms inside c.state_mut-state.ensures.value in
    rw c.start_stop.ensures
    (start_stop_keeps (the_view c.self.inside) c.args.list c.args.mode c.state_mut-state.result.now c.self.invariant inside
    c.state_mut-state.ensures.value (rw conf ready))
