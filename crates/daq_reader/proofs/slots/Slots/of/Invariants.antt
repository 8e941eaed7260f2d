use Rattle.daq_store.specs.Configuration.{channel_of, odt_entries}
use Rattle.daq_reader.proofs.SlotLemmas.{SlotsSoFar}
use Rattle.daq_reader.proofs.slots.Slots.of.Given as goal

abbrev pub invariant-loop-entry : goal.invariant-loop-entry
invariant-loop-entry l = SlotsSoFar (channel_of l.conf.mode) l.segments l.slots.items l.len l.entry (odt_entries l.conf l.odt)
