use Rattle.std.proofs.Common.{List}
use Rattle.daq_store.specs.declared.command.Command.{Command}
use Rattle.daq_store.specs.Running.{is_active}
use Rattle.daq_store.specs.Standing.{StoreStandsAfter}
use Rattle.session.proofs.ListSetLemmas.{HasBelow}
use Rattle.session.proofs.list_sets.running_of.Given as goal

-- the set is that of the lists so far
abbrev pub invariant-loop-l : goal.invariant-loop-l
invariant-loop-l l = (calls : List Command) → StoreStandsAfter l.store calls → HasBelow l.set l.l (is_active calls)
