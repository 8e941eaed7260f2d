-- the ODTs so far are unwritten, and the others as they were
use Rattle.std.proofs.Common.{◌≡◌, ◌++◌, map, take, drop}
use Rattle.daq_store.specs.Inner.Effects.{unwritten}
use Rattle.daq_store.proofs.list_conf.clear_all.Given as goal

abbrev pub invariant-loop-odt : goal.invariant-loop-odt
invariant-loop-odt l =
    l.odts ≡ map unwritten (take l.odt-index l.initial.odts) ++ drop l.odt-index l.initial.odts
