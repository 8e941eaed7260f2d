-- the ODTs of the lists so far
use Rattle.std.proofs.Common.{◌≡◌, take, sum_by}
use Rattle.daq_store.specs.Standing.{odts_of}
use Rattle.daq_store.proofs.store.Store.odts_before.Given as goal

abbrev pub invariant-loop-state : goal.invariant-loop-state
invariant-loop-state l = l.odts ≡ sum_by odts_of (take l.state-index l.state-items)
