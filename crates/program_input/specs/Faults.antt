-- The status of a program that has no arguments.
use Rattle.std.specs.Prelude.{ℕ}
use Rattle.program_input.specs.declared.arguments_fault.ArgumentsFault.{ArgumentsFault}
use Rattle.program_input.specs.declared.arguments_fault.ArgumentsFault.TheVariants.{Memory, NotText}

-- 1 for lack of memory, 2 for an argument that isn't text
abbrev pub status_of_arguments : ArgumentsFault → ℕ
status_of_arguments Memory = 1
status_of_arguments NotText = 2
