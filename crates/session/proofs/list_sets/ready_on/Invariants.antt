use Rattle.std.proofs.Common.{List}
use Rattle.daq_store.specs.declared.command.Command.{Command}
use Rattle.daq_store.specs.Standing.{StoreStandsAfter}
use Rattle.session.specs.Starts.{is_on_after, shows_on}
use Rattle.session.proofs.ListSetLemmas.{HasBelow}
use Rattle.session.proofs.list_sets.ready_on.Given as goal

-- the set is that of the lists so far
abbrev pub invariant-loop-l : goal.invariant-loop-l
invariant-loop-l l = record {
  shown : HasBelow l.set l.l (shows_on l.store l.channel);
  after : (calls : List Command) → StoreStandsAfter l.store calls → HasBelow l.set l.l (is_on_after l.store.profile calls l.channel);
}
