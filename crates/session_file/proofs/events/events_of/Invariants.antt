use Rattle.std.proofs.Common.{◌≡◌, Some, map, take}
use Rattle.toml.specs.View.{items_view}
use Rattle.run_file.specs.Keys.{all_of}
use Rattle.session_file.specs.Events.{event_data, event_in}
use Rattle.session_file.proofs.events.events_of.Given as goal

-- the event channels so far are those of the values so far
abbrev pub invariant-loop-value : goal.invariant-loop-value
invariant-loop-value l = all_of event_in (items_view (take l.value-index l.values)) ≡ Some (map event_data l.events.items)
