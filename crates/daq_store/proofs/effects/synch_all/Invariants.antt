-- the lists so far are stopped or started, and the others as they were
use Rattle.std.proofs.Common.{◌≡◌, ◌++◌, map, take, drop}
use Rattle.daq_store.specs.Inner.Effects.{synched}
use Rattle.daq_store.proofs.effects.synch_all.Given as goal

abbrev pub invariant-loop-state : goal.invariant-loop-state
invariant-loop-state l =
    l.lists ≡ map (synched l.mode) (take l.state-index l.initial.lists) ++ drop l.state-index l.initial.lists
