-- What the parts of a measurement are opened with, by the session's past where it was opened.
use Rattle.std.specs.Prelude.{◌≡◌, ℕ, ◌<◌, false, nat_eq, if◌then◌else◌, List, [], ◌∷◌}
use Rattle.std.specs.Prelude.{filter, map, slice_get, Some}
use Rattle.xcp_base.specs.Forms.{first_pid_behind}
use Rattle.xcp_base.specs.Lists.{has_list}
use Rattle.xcp_base.specs.declared.limits.TheConstants.{MAX_LISTS}
use Rattle.copy_plan.specs.Config.{ListPlan}
use Rattle.copy_plan.specs.Config.{plan_of as list_plan}
use Rattle.daq_store.specs.Calls.{numbers_below}
use Rattle.daq_store.specs.Configuration.{configuration}
use Rattle.daq_store.specs.Shape.{list_count, odts_before}
use Rattle.daq_store.specs.Standing.{StoreStandsAfter}
use Rattle.sampler.specs.History.{Opening}
use Rattle.session.specs.Past.{Past, new_past}
use Rattle.session.specs.Profiles.{lists_of, segments_of}
use Rattle.session.specs.Starts.{is_on}
use Rattle.session.specs.declared.event_channel.EventChannel.{EventChannel}
use Rattle.session.specs.declared.profile.Profile.{Profile}
use Rattle.slave_channels.specs.Channels.{OpenedState}
use Rattle.slave.specs.Log.{Act, CameBack, Discarded, Heard, HungUp, Opened, Refused, Sent, Took}
use Rattle.slave.specs.Log.{opened, past_of}

-- the session's past where measurement m was opened
abbrev pub past_at : Profile → ℕ → List Act → Past
past_at d m [] = new_past
past_at d m (Heard x ∷ log) = past_at d m log
past_at d m (Refused packet code ∷ log) = past_at d m log
past_at d m (Opened at ∷ log) = if nat_eq m (opened log) then past_of d log else past_at d m log
past_at d m (Took n c x ∷ log) = past_at d m log
past_at d m (CameBack n c past ∷ log) = past_at d m log
past_at d m (Sent n ∷ log) = past_at d m log
past_at d m (HungUp ∷ log) = past_at d m log
past_at d m (Discarded ∷ log) = past_at d m log

-- the capacities of the rings of event channels; and of those of a profile
abbrev pub capacities_in : List EventChannel → List ℕ
capacities_in events = map (λ (e : EventChannel). e.capacity) events

abbrev pub capacities_of : Profile → List ℕ
capacities_of d = capacities_in d.events.items

-- the plan of list l, by all that was set of it
abbrev pub plan_after : Profile → Past → ℕ → ListPlan
plan_after d past l =
    list_plan l (configuration (lists_of d).form past.calls l)
    (first_pid_behind (lists_of d).form.id (odts_before past.calls l)) (segments_of d)

-- the plans of the lists that are ready and whose modes name event channel c, in rising list number
abbrev pub ready_plans : Profile → Past → ℕ → List ListPlan
ready_plans d past c =
    map (plan_after d past) (filter (is_on d past c) (numbers_below (list_count past.calls)))

-- event channel c is opened so where a measurement is opened: with the plans of its ready lists, of
-- which none runs yet
pub record IsOpeningAfter (d : Profile) (past : Past) (c : ℕ) (opening : Opening) : Type 0 where
  pub channel : opening.channel ≡ c
  pub plans : opening.plans ≡ ready_plans d past c
  pub running : (l : ℕ) → l < MAX_LISTS → has_list opening.running l ≡ false

-- a part of event channel c was opened with the store that the session then had, and with a ring of
-- the capacity that the profile has there
pub record IsOpenedAfter (d : Profile) (past : Past) (c : ℕ) (o : OpenedState) : Type 0 where
  pub store : StoreStandsAfter o.store past.calls
  pub profile : o.store.profile ≡ lists_of d
  pub channel : o.channel ≡ c
  pub capacity : slice_get (capacities_of d) c ≡ Some o.capacity
