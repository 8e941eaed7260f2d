-- What an engine that was opened over a store is.
use Rattle.std.specs.Prelude.{◌≡◌, ℕ, ◌<◌, ◌≤◌, ◌&&◌, Bool, true, nat_eq, nat_le}
use Rattle.std.specs.Prelude.{All, List, [], length, map, filter}
use Rattle.std.specs.Prelude.{◌↔◌, false, IfErr, OnOk}
use Rattle.std.specs.Prelude.{Option, Some, None, Result, Ok, Err}
use Rattle.std.specs.List.{list_all, list_any}
use Rattle.xcp_base.specs.declared.limits.TheConstants.{MAX_BYTE_RING, MAX_SAMPLE_RING}
use Rattle.xcp_base.specs.declared.limits.TheConstants.{MIN_BYTE_RING, RUN_CHANNELS}
use Rattle.daq_store.specs.Calls.{numbers_below}
use Rattle.daq_store.specs.Configuration.{channel_of, is_ready}
use Rattle.daq_store.specs.Limited.{is_by_value}
use Rattle.daq_store.specs.Standing.{StoreState, conf_of, first_pid_of, shows_running}
use Rattle.copy_plan.specs.Config.{ListPlan, plan_of}
use Rattle.channel_ring.specs.declared.ends.SendEnd.{Ghosts as SendGhosts}
use Rattle.channel_ring.specs.declared.ends.RingEnd.{Ghosts as EndGhosts}
use Rattle.xcp_base.specs.Lists.{has_list}
use Rattle.sampler.specs.History.{Opening, is_list_of}
use Rattle.sampler.specs.State.{SamplerState}
use Rattle.frame_writer.specs.Writing.{WriterState}
use Rattle.transmitter.specs.Written.{HasTaken, TransmitterState}
use Rattle.daq_engine.specs.Configuration.{IsConfiguration, upto}
use Rattle.sampler.specs.Past.{first_past}
use Rattle.daq_engine.specs.Standings.{StandInOrder}
use Rattle.daq_engine.specs.declared.open_fault.OpenFault.{OpenFault}
use Rattle.daq_engine.specs.declared.open_fault.OpenFault.TheVariants.{BadCaps, Memory}
use Rattle.daq_engine.specs.declared.open_fault.OpenFault.TheVariants.{NothingRunning}

-- a ring of items may have this capacity
abbrev pub is_cap : ℕ → Bool
is_cap cap = nat_le 1 cap && nat_le cap MAX_SAMPLE_RING

-- a ring of bytes may have this capacity
abbrev pub is_byte_cap : ℕ → Bool
is_byte_cap cap = nat_le MIN_BYTE_RING cap && nat_le cap MAX_BYTE_RING

-- there is one capacity for each event channel, at most RUN_CHANNELS, and a ring of this kind may
-- have each of them; and samples of the store find room in a value of fixed size
abbrev pub fit_caps_of : (ℕ → Bool) → StoreState → List ℕ → Bool
fit_caps_of may_have s caps =
    nat_eq (length caps) s.profile.channels && nat_le (length caps) RUN_CHANNELS
    && is_by_value s.profile && list_all may_have caps

-- a DAQ list of the store runs
abbrev pub some_list_runs : StoreState → Bool
some_list_runs s = list_any (shows_running s) (numbers_below (length s.lists))

-- an engine may be opened, if there is memory: the capacities fit, and a list runs
abbrev pub CanOpenOver : (ℕ → Bool) → StoreState → List ℕ → Type 0
CanOpenOver may_have s caps = (fit_caps_of may_have s caps ≡ true) × (some_list_runs s ≡ true)

-- list l is ready, and its event channel is c
abbrev pub is_ready_on : StoreState → ℕ → ℕ → Bool
is_ready_on s c l =
    is_ready s.profile.segments (conf_of s l) && nat_eq (channel_of (conf_of s l).mode) c

-- the plan of list l, by what the store has of it
abbrev pub list_plan : StoreState → ℕ → ListPlan
list_plan s l = plan_of l (conf_of s l) (first_pid_of s l) s.profile.segments

-- a plan has at most so many ODTs
abbrev pub HasFewOdts : ℕ → ListPlan → Type 0
HasFewOdts most plan = length plan.odts ≤ most

-- the plans of the lists that are there, ready and of event channel c, in rising list number
abbrev pub channel_plans : StoreState → ℕ → List ListPlan
channel_plans s c =
    map (list_plan s) (filter (is_ready_on s c) (numbers_below (length s.lists)))

-- the opening is that of event channel c of the store: the plans are those of its ready lists, and
-- of these run those that run in the store
pub record IsOpeningOf (s : StoreState) (c : ℕ) (opening : Opening) : Type 0 where
  pub channel : opening.channel ≡ c
  pub plans : opening.plans ≡ channel_plans s c
  pub running : (l : ℕ) → has_list opening.running l ≡ (is_list_of opening l && shows_running s l)

-- the samplers are those of all event channels of the store, in rising order; sampler c stands
-- after nothing, from opening c
pub record AreOpened {S E : Type 0} (send : SendGhosts S E) (ring : EndGhosts E) (s : StoreState)
    (caps : List ℕ) (samplers : List (SamplerState S)) (openings : ℕ → Opening)
    : Type 0 where
  pub of_store : (c : ℕ) → c < s.profile.channels → IsOpeningOf s c (openings c)
  pub configuration : IsConfiguration s.profile.channels openings
  pub channels :
      map (λ (sampler : SamplerState S). sampler.channel) samplers ≡ upto 0 s.profile.channels
  pub stands : StandInOrder send ring samplers (λ c. first_past (openings c))
  pub capacities : map (λ (sampler : SamplerState S). send.capacity sampler.end) samplers ≡ caps
  pub segments :
      All (λ (sampler : SamplerState S). sampler.segments ≡ s.profile.segments) samplers
  pub nothing_sent : All (λ (sampler : SamplerState S). send.sent sampler.end ≡ []) samplers

-- the transmitter took nothing yet; its ring c is that of sampler c
pub record IsPaired {S E : Type 0} (send : SendGhosts S E) (samplers : List (SamplerState S))
    (start : WriterState) (t : TransmitterState)
    : Type 0 where
  pub rings : t.rings ≡ map (λ (sampler : SamplerState S). send.ring sampler.end) samplers
  pub taken : HasTaken start t []

-- the samplers and the transmitter that an engine is opened with: each sampler stands after
-- nothing, and nothing was taken from its ring
pub record IsOpenedOver {S E : Type 0} (send : SendGhosts S E) (ring : EndGhosts E)
    (s : StoreState) (caps : List ℕ) (start : WriterState) (samplers : List (SamplerState S))
    (t : TransmitterState)
    : Type 0 where
  -- fixed by `opened`, for the channels that there are
  pub openings : ℕ → Opening
  pub opened : AreOpened send ring s caps samplers openings
  pub paired : IsPaired send samplers start t

-- why there is no engine
abbrev pub refusal_of : {A F W : Type 0} → Result A (F × W) → Option F
refusal_of (Ok engine) = None
refusal_of (Err refusal) = Some refusal.0

-- what an opening over a store answers: an engine, and then the capacities fit and a list runs; or
-- the first of these checks that fails; or that memory ran out, where none does. What is refused
-- hands the frame writer back as it was
pub record AnswersOpening {A W : Type 0} (may_have : ℕ → Bool) (s : StoreState) (caps : List ℕ)
    (writer : W) (result : Result A (OpenFault × W))
    : Type 0 where
  pub ok : OnOk result (CanOpenOver may_have s caps)
  pub bad_caps : (refusal_of result ≡ Some BadCaps) ↔ (fit_caps_of may_have s caps ≡ false)
  pub nothing_running :
      (refusal_of result ≡ Some NothingRunning)
      ↔ ((fit_caps_of may_have s caps ≡ true) × (some_list_runs s ≡ false))
  pub memory : refusal_of result ≡ Some Memory → CanOpenOver may_have s caps
  pub back : IfErr result (λ refusal. refusal.1 ≡ writer)
