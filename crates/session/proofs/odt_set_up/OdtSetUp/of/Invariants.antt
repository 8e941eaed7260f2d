use Rattle.std.proofs.Common.{◌≡◌, take}
use Rattle.daq_store.specs.Configuration.{odt_entries}
use Rattle.session.proofs.odt_set_up.OdtSetUp.of.Given as goal

-- the entries so far are held
abbrev pub invariant-loop-entry : goal.invariant-loop-entry
invariant-loop-entry l = l.entries.items ≡ take l.entry (odt_entries l.conf l.odt)
