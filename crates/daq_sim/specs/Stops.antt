-- Why the program stops.
use Rattle.std.specs.Prelude.{ℕ, Bool, false, true, List, ⊤}
use Rattle.frame_writer.specs.Shown.{OutState}
use Rattle.run_file.specs.RunFile.{IsRunText, RunData}
use Rattle.explain.specs.RunTexts.{IsNoRun}
use Rattle.daq_run.specs.Faults.{StandsAtFault}
use Rattle.daq_run.specs.Threads.{ThreadsStandAtFault}
use Rattle.daq_run.specs.declared.sim_fault.SimFault.{SimFault}
use Rattle.daq_run.specs.declared.sim_fault.SimFault.TheVariants.{Memory}
use Rattle.daq_sim.specs.Done.{nothing_written}
use Rattle.daq_sim.specs.declared.program_fault.ProgramFault.{ProgramFault}
use Rattle.daq_sim.specs.declared.program_fault.ProgramFault.TheVariants.{CommandLine, OutFile, Run}
use Rattle.daq_sim.specs.declared.program_fault.ProgramFault.TheVariants.{Sim, Unreadable}

-- a run was begun with a writer that had taken nothing, and this is what stands at its fault; of
-- lack of memory nothing is said
abbrev pub StopsRun : Bool → RunData → SimFault → Type 0
StopsRun threads run Memory = ⊤
StopsRun false run fault = (written : OutState) × StandsAtFault run nothing_written written fault
StopsRun true run fault =
    (written : OutState) × ThreadsStandAtFault run nothing_written written fault

-- a run that was read stops for this: its file can't be made, or it was begun
abbrev pub StopsOf : Bool → RunData → ProgramFault → Type 0
StopsOf threads run OutFile = ⊤
StopsOf threads run (Sim fault) = StopsRun threads run fault
StopsOf threads run _ = ⊥

-- a text stops for this: it can't be read, or is no run; memory ran out; or it is a run, and
-- that stops for this
abbrev pub StopsAt : Bool → List ℕ → ProgramFault → Type 0
StopsAt threads text CommandLine = ⊥
StopsAt threads text Unreadable = ⊤
StopsAt threads text (Run fault) = IsNoRun text fault
StopsAt threads text (Sim Memory) = ⊤
StopsAt threads text fault = (run : RunData) × IsRunText text run × StopsOf threads run fault
