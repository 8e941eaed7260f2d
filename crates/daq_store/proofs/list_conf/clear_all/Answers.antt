-- one ODT more is unwritten
use Rattle.daq_store.specs.Inner.Effects.{unwritten}
use Rattle.std.proofs.lemmas.List.Edits.{map_over_more}
use Rattle.daq_store.proofs.list_conf.clear_all.Goals as goal

pub loop-odt-preserved : goal.loop-odt-preserved
loop-odt-preserved c =
    rw (c.clear.ensures, ← c.odt-item.is)
    (map_over_more unwritten c.args.odts.now c.loop-odt.odts c.loop-odt.odt-index c.odt-item.result c.loop-odt-test.true c.loop-odt.invariant c.odt-item.is)
