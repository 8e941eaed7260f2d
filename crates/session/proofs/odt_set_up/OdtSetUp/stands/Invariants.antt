use Rattle.std.proofs.Common.{◌≡◌, take}
use Rattle.daq_store.specs.Configuration.{odt_entries}
use Rattle.session.proofs.odt_set_up.OdtSetUp.stands.Given as goal

-- the entries so far are the same
abbrev pub invariant-loop-entry : goal.invariant-loop-entry
invariant-loop-entry l = take l.entry l.self ≡ take l.entry (odt_entries l.conf l.odt)
