-- The faults of the program, and the status of each.
use Rattle.std.specs.Prelude.{ℕ}
use Rattle.capture_recording.specs.declared.capture_read_fault.CaptureReadFault.TheVariants
    as unread
use Rattle.recording.specs.declared.recording_fault.RecordingFault.{RecordingFault}
use Rattle.recording.specs.declared.recording_fault.RecordingFault.TheVariants.{NoValue}
use Rattle.recording.specs.declared.recording_fault.RecordingFault.TheVariants.{Unreadable}
use Rattle.explain.specs.declared.run_text_fault.RunTextFault.TheVariants.{Memory}
use Rattle.xcpread.specs.declared.program_fault.ProgramFault.{ProgramFault}
use Rattle.xcpread.specs.declared.program_fault.ProgramFault.TheVariants.{Capture, Recording, Text}
use Rattle.xcpread.specs.declared.program_fault.ProgramFault.TheVariants.{LongInput, Unprinted}
use Rattle.xcpread.specs.declared.program_fault.ProgramFault.TheVariants.{Unwritten}

-- lack of memory before the recording is read
abbrev pub want_of_memory : ProgramFault
want_of_memory = Text Memory

-- 1 for a recording that was read in part or is of another run, and for lack of memory; 2 for what
-- is wrong with words or files
abbrev pub status_of_fault : ProgramFault → ℕ
status_of_fault (Text Memory) = 1
status_of_fault (Recording NoValue) = 2
status_of_fault (Recording Unreadable) = 2
status_of_fault (Recording fault) = 1
status_of_fault (Capture unread.Unreadable) = 2
status_of_fault (Capture unread.NoCapture) = 2
status_of_fault (Capture fault) = 1
status_of_fault LongInput = 1
status_of_fault Unprinted = 1
status_of_fault Unwritten = 1
status_of_fault _ = 2

-- the recording isn't shown, for a fault of which this is so
abbrev pub IsOfRecording : (RecordingFault → Type 0) → ProgramFault → Type 0
IsOfRecording IsSo (Recording fault) = IsSo fault
IsOfRecording IsSo _ = ⊥
