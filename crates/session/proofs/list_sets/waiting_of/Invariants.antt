use Rattle.std.proofs.Common.{List, ◌&&◌, not}
use Rattle.daq_store.specs.declared.command.Command.{Command}
use Rattle.daq_store.specs.Running.{is_active, is_chosen}
use Rattle.daq_store.specs.Standing.{StoreStandsAfter}
use Rattle.session.proofs.ListSetLemmas.{HasBelow}
use Rattle.session.proofs.list_sets.waiting_of.Given as goal

-- the set is that of the lists so far
abbrev pub invariant-loop-l : goal.invariant-loop-l
invariant-loop-l l = (calls : List Command) → StoreStandsAfter l.store calls → HasBelow l.set l.l (λ k. is_chosen calls k && not (is_active calls k))
