-- The event channels of a session file.
use Rattle.std.specs.Prelude.{ℕ, if◌then◌else◌, List, codes, Option, Some, None, option_and_then}
use Rattle.toml.specs.Data.{Data, Members, as_table}
use Rattle.session.specs.declared.event_channel.EventChannel.{EventChannel}
use Rattle.run_file.specs.Keys.{at_key, number_in}
use Rattle.session_file.specs.declared.limits.TheConstants.{MAX_INTEGER}
use Rattle.session_file.specs.Keys.{event_keys, number_or_0, only_keys, text_or_empty}

-- what is told of an event channel
pub record EventData : Type 0 where
  pub capacity : ℕ
  pub name : List ℕ
  pub cycle : ℕ
  pub cycle_unit : ℕ
  pub priority : ℕ

abbrev pub event_data : EventChannel → EventData
event_data e = record {
  capacity = e.capacity;
  name = e.name.items;
  cycle = e.cycle;
  cycle_unit = e.cycle_unit;
  priority = e.priority;
}

-- all of it, if each value is there
abbrev pub event_with :
    Option ℕ → Option (List ℕ) → Option ℕ → Option ℕ → Option ℕ → Option EventData
event_with (Some capacity) (Some name) (Some cycle) (Some cycle_unit) (Some priority) =
    Some (record {
      capacity = capacity;
      name = name;
      cycle = cycle;
      cycle_unit = cycle_unit;
      priority = priority;
    })
event_with _ _ _ _ _ = None

-- the event channel of a table: its capacity is required, and no other key may be there
abbrev pub event_of : Members → Option EventData
event_of ms =
    if only_keys event_keys ms
    then event_with
    (at_key (number_in 0 MAX_INTEGER) (codes "capacity") ms)
    (text_or_empty (codes "name") ms)
    (number_or_0 255 (codes "cycle") ms)
    (number_or_0 255 (codes "cycle_unit") ms)
    (number_or_0 255 (codes "priority") ms)
    else None

abbrev pub event_in : Data → Option EventData
event_in d = option_and_then event_of (as_table d)
