-- What stands if a run was not done to its end.
use Rattle.std.specs.Prelude.{◌≡◌, ◌⊎◌, ℕ, Bool, true, false}
use Rattle.daq_store.specs.Standing.{StoreState}
use Rattle.frame_writer.specs.Frame.{text}
use Rattle.frame_writer.specs.Shown.{BreaksOff, OutState}
use Rattle.frame_writer.specs.Writing.{WriterState}
use Rattle.run_file.specs.RunFile.{RunData}
use Rattle.daq_run.specs.declared.setup.SetupFault.{SetupFault}
use Rattle.daq_run.specs.declared.setup.SetupFault.TheVariants.{Memory as OfMemory}
use Rattle.daq_run.specs.declared.setup.SetupFault.TheVariants.{Write as OfWrite}
use Rattle.daq_engine.specs.Openings.{some_list_runs}
use Rattle.daq_run.specs.declared.sim_fault.SimFault.{SimFault}
use Rattle.daq_run.specs.declared.sim_fault.SimFault.TheVariants.{EndLost, Memory, NoThread}
use Rattle.daq_run.specs.declared.sim_fault.SimFault.TheVariants.{NothingRunning, SetupWrite}
use Rattle.daq_run.specs.Runs.{HasRun}
use Rattle.daq_run.specs.SetUps.{IsSetUp, StopsInSetUp, replies_of}

-- a run was set up, and nothing was done then; whether a DAQ list runs
pub record StopsBefore (run : RunData) (before after : OutState) (runs : Bool) : Type 0 where
  -- fixed by `set_up`
  pub store : StoreState
  pub writer : WriterState
  pub set_up : IsSetUp run before store writer
  pub running : some_list_runs store ≡ runs
  pub written : after ≡ writer.out

-- the steps of a run were done, and its engine was not closed
pub record StopsBehind (run : RunData) (before after : OutState) : Type 0 where
  -- any: how many steps were refused is told by no fault
  pub refused : ℕ
  pub has_run : HasRun run before refused
  pub written : after ≡ has_run.transmitter.writer.out

-- what stands at a fault, if `behind` stands at a fault that comes once the engine was opened,
-- and `apart` if a thread can't be had
abbrev pub StandsBy : Type 0 → Type 0 → RunData → OutState → OutState → SimFault → Type 0
StandsBy behind apart run before after Memory =
    StopsInSetUp run before after ⊎ (StopsBefore run before after true ⊎ behind)
StandsBy behind apart run before after NothingRunning = StopsBefore run before after false
StandsBy behind apart run before after SetupWrite =
    BreaksOff before after (text 0 (replies_of run))
StandsBy behind apart run before after EndLost = behind
StandsBy behind apart run before after NoThread = apart

-- what stands if a run ends with a fault: the writer showed this before and that after
abbrev pub StandsAtFault : RunData → OutState → OutState → SimFault → Type 0
StandsAtFault run before after fault =
    StandsBy (StopsBehind run before after) ⊥ run before after fault

-- the fault of a set-up, as that of a run
abbrev pub run_fault : SetupFault → SimFault
run_fault OfMemory = Memory
run_fault OfWrite = SetupWrite
