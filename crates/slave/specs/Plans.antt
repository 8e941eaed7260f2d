-- How DAQ lists were set up where a measurement was opened.
use Rattle.std.specs.Prelude.{◌≡◌, ℕ, ◌<◌, true, List, [], ◌∷◌, length, map, slice_get, Some}
use Rattle.daq_store.specs.Calls.{numbers_below}
use Rattle.daq_store.specs.Configuration.{Configuration, configuration}
use Rattle.daq_store.specs.Shape.{is_list, list_count}
use Rattle.daq_store.specs.Standing.{StoreState, conf_of}
use Rattle.session.specs.Past.{Past}
use Rattle.session.specs.Profiles.{lists_of}
use Rattle.session.specs.SetUps.{set_up_of}
use Rattle.session.specs.declared.profile.Profile.{Profile}
use Rattle.slave.specs.Log.{Act, CameBack, Discarded, Heard, HungUp, Opened, Refused, Sent}
use Rattle.slave.specs.Log.{Took, past_of}

-- the set-ups of the lists of a store, by their numbers
abbrev pub plan_of : StoreState → List Configuration
plan_of store = map (λ l. set_up_of (conf_of store l)) (numbers_below (length store.lists))

-- list l is there, and is set up as it was
pub record IsSame (plan : List Configuration) (store : StoreState) (l : ℕ) : Type 0 where
  pub there : l < length store.lists
  pub same : slice_get plan l ≡ Some (set_up_of (conf_of store l))

-- all that was set of list l, but its priority
abbrev pub set_up : Profile → Past → ℕ → Configuration
set_up d past l = set_up_of (configuration (lists_of d).form past.calls l)

-- the same of all lists, by their numbers
abbrev pub set_ups : Profile → Past → List Configuration
set_ups d past = map (set_up d past) (numbers_below (list_count past.calls))

-- how the lists were set up where the newest measurement was opened
abbrev pub plan_at : Profile → List Act → List Configuration
plan_at d [] = []
plan_at d (Heard x ∷ log) = plan_at d log
plan_at d (Refused packet code ∷ log) = plan_at d log
plan_at d (Opened at ∷ log) = set_ups d (past_of d log)
plan_at d (Took m c x ∷ log) = plan_at d log
plan_at d (CameBack m c past ∷ log) = plan_at d log
plan_at d (Sent n ∷ log) = plan_at d log
plan_at d (HungUp ∷ log) = plan_at d log
plan_at d (Discarded ∷ log) = plan_at d log

-- list l is there, and is set up as it was there
abbrev pub IsAsOpened : Profile → List Act → ℕ → Type 0
IsAsOpened d log l =
    (is_list (past_of d log).calls l ≡ true)
    × (slice_get (plan_at d log) l ≡ Some (set_up d (past_of d log) l))
