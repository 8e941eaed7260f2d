-- Why no run is read from a text.
use Rattle.std.specs.Prelude.{ℕ, List, ⊤}
use Rattle.program_input.specs.declared.text_fault.TextFault.{TextFault}
use Rattle.program_input.specs.declared.text_fault.TextFault.TheVariants as text
use Rattle.run_file.specs.Outcomes.{IsOutcome, bad_key, bad_setup, bad_step, not_toml}
use Rattle.run_file.specs.declared.run_fault.RunFault.{RunFault}
use Rattle.run_file.specs.declared.run_fault.RunFault.TheVariants as bad
use Rattle.explain.specs.declared.run_text_fault.RunTextFault.{RunTextFault}
use Rattle.explain.specs.declared.run_text_fault.RunTextFault.TheVariants.{Memory, Run}
use Rattle.explain.specs.declared.run_text_fault.RunTextFault.TheVariants.{Unreadable}

abbrev pub fault_of_text : TextFault → RunTextFault
fault_of_text text.Unreadable = Unreadable
fault_of_text text.Memory = Memory

-- lack of memory is the same one, whoever met it
abbrev pub fault_of_run : RunFault → RunTextFault
fault_of_run bad.Memory = Memory
fault_of_run fault = Run fault

-- the text comes to this fault, and to no run
abbrev pub IsNoRun : List ℕ → RunFault → Type 0
IsNoRun text bad.NotToml = IsOutcome text not_toml
IsNoRun text bad.BadKey = IsOutcome text bad_key
IsNoRun text (bad.BadSetup place) = IsOutcome text (bad_setup place)
IsNoRun text (bad.BadStep place) = IsOutcome text (bad_step place)
IsNoRun text bad.Memory = ⊥

-- a text stops for this: it can't be read, or is no run; of lack of memory nothing is said
abbrev pub StopsText : List ℕ → RunTextFault → Type 0
StopsText text Unreadable = ⊤
StopsText text (Run fault) = IsNoRun text fault
StopsText text Memory = ⊤
