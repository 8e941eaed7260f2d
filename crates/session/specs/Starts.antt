-- Which DAQ lists run, and which a packet starts and stops.
use Rattle.std.specs.Prelude.{ℕ, ◌&&◌, not, nat_eq, nat_lt, Bool, List, length}
use Rattle.daq_store.specs.declared.command.Command.{Command}
use Rattle.daq_store.specs.Answer.{calls_after}
use Rattle.daq_store.specs.Calls.{Profile as ListsProfile}
use Rattle.daq_store.specs.Configuration.{channel_of, is_ready, list_is_ready}
use Rattle.daq_store.specs.Modes.{mode_of}
use Rattle.daq_store.specs.Running.{is_active}
use Rattle.daq_store.specs.Shape.{is_list}
use Rattle.daq_store.specs.Standing.{StoreState, conf_of}
use Rattle.session.specs.declared.profile.Profile.{Profile}
use Rattle.session.specs.Exchanges.{past_after_packet}
use Rattle.session.specs.Past.{Past, none_given}
use Rattle.session.specs.Profiles.{lists_of}

-- list l is there and runs
abbrev pub runs : Past → ℕ → Bool
runs past l = is_active past.calls l

-- list l runs behind the packet, but not before it; what comes with the packet has no part in this
abbrev pub starts : Profile → Past → List ℕ → ℕ → Bool
starts d past packet l = not (runs past l) && runs (past_after_packet d past none_given packet) l

-- list l runs before the packet, but not behind it
abbrev pub stops : Profile → Past → List ℕ → ℕ → Bool
stops d past packet l = runs past l && not (runs (past_after_packet d past none_given packet) l)

-- list l runs behind a call to the store, but not before it
abbrev pub call_starts : ListsProfile → List Command → Command → ℕ → Bool
call_starts lists calls call l =
    not (is_active calls l) && is_active (calls_after lists calls call) l

-- list l is there and ready
abbrev pub is_startable : ListsProfile → List Command → ℕ → Bool
is_startable lists calls l = is_list calls l && list_is_ready lists calls l

-- list l of a store is there and ready, and its mode names event channel c
abbrev pub shows_on : StoreState → ℕ → ℕ → Bool
shows_on s c l =
    nat_lt l (length s.lists)
    && (
    is_ready s.profile.segments (conf_of s l)
    && nat_eq (channel_of (conf_of s l).mode) c
    )

-- the same of list l after some calls
abbrev pub is_on_after : ListsProfile → List Command → ℕ → ℕ → Bool
is_on_after lists calls c l =
    is_startable lists calls l && nat_eq (channel_of (mode_of calls l)) c

-- the same of list l of a session
abbrev pub is_on : Profile → Past → ℕ → ℕ → Bool
is_on d past c l = is_on_after (lists_of d) past.calls c l
