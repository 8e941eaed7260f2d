-- the ODTs stay, and lists are started only where all that are selected are ready
use Rattle.std.proofs.Common.{◌≡◌, ◌++◌, take, drop, length, map, arith}
use Rattle.std.proofs.lemmas.Grind.{common_steps}
use Rattle.daq_store.specs.contracts.store.Store.{the_view}
use Rattle.daq_store.specs.Inner.Effects.{synched}
use Rattle.daq_store.proofs.InvariantLemmas.{synch_keeps}
use Rattle.daq_store.proofs.store.Store.put_synch.Goals as goal

pub invariant_of-self : goal.invariant_of-self
invariant_of-self c =
    let ready = rw (← c.self.view_is) at c.requires in
    let lists : take c.self.inside.lists.len (c.synch_all.new.lists ++ drop (length c.synch_all.new.lists) c.self.inside.lists.items)
    ≡ map (synched c.args.mode) c.self.inside.lists.items = grind (arith, common_steps) in
    rw lists (synch_keeps (the_view c.self.inside) c.args.mode c.self.invariant ready)
