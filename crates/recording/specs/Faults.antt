-- Why a recording is read no further.
use Rattle.program_input.specs.declared.text_fault.TextFault.{TextFault}
use Rattle.program_input.specs.declared.text_fault.TextFault.TheVariants as text
use Rattle.daq_reader.specs.declared.frame_fault.FrameFault.TheVariants.{Torn}
use Rattle.daq_reader.specs.declared.read_fault.ReadFault.TheVariants.{Frame}
use Rattle.recording.specs.declared.place.Place.{Place}
use Rattle.recording.specs.declared.recording_fault.RecordingFault.{RecordingFault}
use Rattle.recording.specs.declared.recording_fault.RecordingFault.TheVariants.{BreaksOff}
use Rattle.recording.specs.declared.recording_fault.RecordingFault.TheVariants.{Memory}
use Rattle.recording.specs.declared.recording_fault.RecordingFault.TheVariants.{Unreadable}
use Rattle.recording.specs.declared.reason.Reason.{Reason}
use Rattle.recording.specs.declared.reason.Reason.TheVariants.{Read}

-- a recording isn't read: lack of memory, or else it can't be read
abbrev pub fault_of_recording : TextFault → RecordingFault
fault_of_recording text.Unreadable = Unreadable
fault_of_recording text.Memory = Memory

-- the recording breaks off at a place
abbrev pub breaks_off : Place → Reason → RecordingFault
breaks_off place why = BreaksOff (record { place = place; why = why })

-- the bytes that are left are the front of a frame at most
abbrev pub torn : Reason
torn = Read (Frame Torn)
