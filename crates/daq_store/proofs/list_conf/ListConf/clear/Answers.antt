-- as many ODTs, each with as many entries, and no mode
use Rattle.std.proofs.Common.{◌≡◌, ◌++◌, take, drop, length, map, arith}
use Rattle.std.proofs.lemmas.Grind.{common_steps}
use Rattle.daq_store.specs.contracts.list_conf.ListConf.{the_view}
use Rattle.daq_store.specs.Inner.Effects.{unwritten}
use Rattle.daq_store.proofs.InvariantLemmas.{unset_keeps}
use Rattle.daq_store.proofs.list_conf.ListConf.clear.Goals as goal

pub invariant_of-self : goal.invariant_of-self
invariant_of-self c =
    let odts : take c.self.inside.odts.len (c.clear_all.new.odts ++ drop (length c.clear_all.new.odts) c.self.inside.odts.items)
    ≡ map unwritten c.self.inside.odts.items = grind (arith, common_steps) in
    rw odts (unset_keeps (the_view c.self.inside) c.self.invariant)
