-- What a run with a thread for each event channel comes to, whatever the schedule.
use Rattle.std.specs.Prelude.{◌≡◌, ℕ, ◌<◌, true, List, count_by, map, sum_by}
use Rattle.xcp_base.specs.declared.item.Item.{Item}
use Rattle.daq_store.specs.Standing.{StoreState}
use Rattle.frame_writer.specs.Shown.{OutState}
use Rattle.frame_writer.specs.Writing.{WriterState}
use Rattle.run_file.specs.RunFile.{RunData}
use Rattle.sampler.specs.Past.{Past}
use Rattle.transmitter.specs.Written.{HasTaken, TransmitterState}
use Rattle.daq_engine.specs.Configuration.{upto}
use Rattle.daq_engine.specs.Openings.{some_list_runs}
use Rattle.daq_engine.specs.declared.report.Report.{Report}
use Rattle.daq_run.specs.Answers.{Answered, AreAnswered}
use Rattle.daq_run.specs.Samplings.{was_refused}
use Rattle.daq_run.specs.Steps.{asked_of, run_step}
use Rattle.daq_run.specs.declared.sim_fault.SimFault.{SimFault}
use Rattle.daq_run.specs.Ample.{DropsNothing, HoldsAll}
use Rattle.daq_run.specs.Faults.{StandsBy}
use Rattle.daq_run.specs.Runs.{HasPasts, IsClosed, settings_of_run}
use Rattle.daq_run.specs.SetUps.{IsSetUp}

-- how many of the answers that n channels got are refusals
abbrev pub refused_in : ℕ → (ℕ → List Answered) → ℕ
refused_in n told = sum_by (λ c. count_by was_refused (told c)) (upto 0 n)

-- the steps of a run that was set up and opened were done channel by channel, each beside the
-- others, and so many were refused
pub record HasRunApart (run : RunData) (before : OutState) (refused : ℕ) : Type 0 where
  -- fixed by `has_pasts`
  pub writer : WriterState
  -- what each channel had behind it at last: fixed by `answered`, but for what its ring refused
  pub past : ℕ → Past
  pub has_pasts : HasPasts run before writer past
  -- what each channel was asked for, with its answers: fixed by `answered`, but for which stops
  -- found no room
  pub told : ℕ → List Answered
  pub answered :
      (c : ℕ) → c < run.channels
      → AreAnswered (settings_of_run run c) (asked_of c (map run_step run.steps)) (told c) (past c)
  pub counted : refused ≡ refused_in run.channels told
  -- if the ring of a channel holds all that its steps would send, nothing is dropped
  pub ample :
      (c : ℕ) → c < run.channels
      → HoldsAll (settings_of_run run c) (past c).opening (asked_of c (map run_step run.steps))
      → DropsNothing (settings_of_run run c) (asked_of c (map run_step run.steps)) (told c) (past c)
  -- what the transmitter of that writer took meanwhile, and wrote: fixed by `taken`, and by what
  -- was written at the close
  pub items : List (ℕ × Item)
  pub transmitter : TransmitterState
  pub taken : HasTaken writer transmitter items

-- a run in threads came to this: the replies to its set-up and the frames of its engine, the
-- account, and how many of its steps were refused
pub record ThreadsComeTo (run : RunData) (before : OutState) (refused : ℕ) (report : Report)
    (after : OutState)
    : Type 0 where
  pub has_run : HasRunApart run before refused
  pub closed :
      IsClosed run has_run.writer has_run.past has_run.items has_run.transmitter report after

-- a run was set up and opened, and the transmitter took and wrote something; nothing is known of
-- its channels
pub record StopsAmongThreads (run : RunData) (before after : OutState) : Type 0 where
  -- fixed by `set_up`
  pub store : StoreState
  pub writer : WriterState
  pub set_up : IsSetUp run before store writer
  pub running : some_list_runs store ≡ true
  -- any: that the frames are those of samples is all that is said of them
  pub items : List (ℕ × Item)
  -- its bytes fixed by `written`, the rest by `taken`
  pub transmitter : TransmitterState
  pub taken : HasTaken writer transmitter items
  pub written : after ≡ transmitter.writer.out

-- what stands if a run in threads ends with a fault: the writer showed this before and that
-- after
abbrev pub ThreadsStandAtFault : RunData → OutState → OutState → SimFault → Type 0
ThreadsStandAtFault run before after fault =
    StandsBy (StopsAmongThreads run before after) (StopsAmongThreads run before after)
    run before after fault
