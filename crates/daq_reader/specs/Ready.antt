-- The DAQ lists of a store that a run may write samples of.
use Rattle.std.specs.Prelude.{ℕ, Bool, List, [], length, map, filter}
use Rattle.copy_plan.specs.Config.{ListPlan, plan_of}
use Rattle.daq_store.specs.Calls.{numbers_below}
use Rattle.daq_store.specs.Configuration.{is_ready}
use Rattle.daq_store.specs.Standing.{StoreState, conf_of, first_pid_of}
use Rattle.daq_reader.specs.Reading.{Reading}

-- list l is ready
abbrev pub shows_ready : StoreState → ℕ → Bool
shows_ready s l = is_ready s.profile.segments (conf_of s l)

-- the plan of list l, by what the store has of it
abbrev pub plan_in : StoreState → ℕ → ListPlan
plan_in s l = plan_of l (conf_of s l) (first_pid_of s l) s.profile.segments

-- list l before its first packet
abbrev pub first_reading : StoreState → ℕ → Reading
first_reading s l = record { plan = plan_in s l; packets = [] }

-- the ready ones of the first n lists, in rising number, each before its first packet
abbrev pub ready_below : StoreState → ℕ → List Reading
ready_below s n = map (first_reading s) (filter (shows_ready s) (numbers_below n))

-- all ready lists
abbrev pub ready_lists : StoreState → List Reading
ready_lists s = ready_below s (length s.lists)
