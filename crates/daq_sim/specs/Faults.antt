-- The faults of the program: what stands for a fault of a run's text, and the status of each.
use Rattle.std.specs.Prelude.{ℕ}
use Rattle.daq_run.specs.declared.sim_fault.SimFault.TheVariants.{Memory}
use Rattle.daq_sim.specs.declared.program_fault.ProgramFault.{ProgramFault}
use Rattle.daq_sim.specs.declared.program_fault.ProgramFault.TheVariants.{Run, Sim, Unreadable}
use Rattle.explain.specs.declared.run_text_fault.RunTextFault.{RunTextFault}
use Rattle.explain.specs.declared.run_text_fault.RunTextFault.TheVariants as none

-- lack of memory, wherever it was met
abbrev pub want_of_memory : ProgramFault
want_of_memory = Sim Memory

-- lack of memory is the same one, whoever met it
abbrev pub fault_of_text : RunTextFault → ProgramFault
fault_of_text none.Unreadable = Unreadable
fault_of_text (none.Run fault) = Run fault
fault_of_text none.Memory = want_of_memory

-- 1 for a run that was begun and for lack of memory, 2 for what is wrong with arguments, text or
-- file
abbrev pub status_of_fault : ProgramFault → ℕ
status_of_fault (Sim fault) = 1
status_of_fault _ = 2
