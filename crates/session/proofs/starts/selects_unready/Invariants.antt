use Rattle.std.proofs.Common.{◌≡◌, List, false}
use Rattle.std.specs.List.{list_any}
use Rattle.daq_store.specs.declared.command.Command.{Command}
use Rattle.daq_store.specs.Answer.{selects_unready}
use Rattle.daq_store.specs.Calls.{numbers_below}
use Rattle.daq_store.specs.Standing.{StoreStandsAfter}
use Rattle.session.proofs.starts.selects_unready.Given as goal

-- none of the lists so far is selected and not ready
abbrev pub invariant-loop-l : goal.invariant-loop-l
invariant-loop-l l = (calls : List Command) → StoreStandsAfter l.store calls → list_any (selects_unready l.store.profile calls) (numbers_below l.l) ≡ false
