use Rattle.std.proofs.Common.{◌≡◌, map, take}
use Rattle.daq_store.specs.Configuration.{channel_of}
use Rattle.copy_plan.specs.Config.{written_entries}
use Rattle.daq_reader.proofs.list_shape.slots_of_odts.Given as goal

-- the slots of the ODTs so far
abbrev pub invariant-loop-odt : goal.invariant-loop-odt
invariant-loop-odt l = l.odts.items ≡ map (written_entries (channel_of l.conf.mode) l.segments) (take l.odt l.conf.odts)
