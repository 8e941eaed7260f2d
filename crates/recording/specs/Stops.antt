-- Why a recording is read no further, by the fault that is answered.
use Rattle.std.specs.Prelude.{◌≡◌, ◌⊎◌, ℕ, List, [], ◌++◌, Option, Some}
use Rattle.std.specs.Io.KnownBytes.{IsAtEnd}
use Rattle.daq_reader.specs.Lists.{Stands, plans_of}
use Rattle.daq_reader.specs.Reading.{Reading}
use Rattle.daq_reader.specs.Recorded.{Recorded}
use Rattle.daq_reader.specs.Recording.{IsRecordingOf}
use Rattle.recording.specs.declared.break_off.BreakOff.{BreakOff}
use Rattle.recording.specs.declared.piece.Piece.{Piece}
use Rattle.recording.specs.declared.recording_fault.RecordingFault.{RecordingFault}
use Rattle.recording.specs.declared.recording_fault.RecordingFault.TheVariants.{BreaksOff, Memory}
use Rattle.recording.specs.declared.recording_fault.RecordingFault.TheVariants.{Unreadable}
use Rattle.recording.specs.declared.reason.Reason.TheVariants.{WithinSample}
use Rattle.recording.specs.Faults.{torn}
use Rattle.recording.specs.Pieces.{IsReason, Passes, unread_of, unread_with}

-- a recording was read from its first packet on, from one piece to another, in front of which it
-- breaks off for a reason
pub record HasBrokenOff (lists : List Reading) (input rest : Option (List ℕ)) (first last : Piece)
    (at : BreakOff)
    : Type 0 where
  pub begins : Stands lists [] []
  -- fixed by `read`
  pub now : List Reading
  pub samples : List (ℕ × Recorded)
  pub read : Passes lists [] now samples input rest first last
  pub plans : plans_of now ≡ plans_of lists
  pub place : at.place ≡ last.place
  pub why : IsReason now (unread_of last) rest at.why

-- the fault is one of reading on: the recording breaks off, can't be read, or memory ran out
abbrev pub IsOfReading : RecordingFault → Type 0
IsOfReading (BreaksOff at) = Unit {0}
IsOfReading Unreadable = Unit {0}
IsOfReading Memory = Unit {0}
IsOfReading _ = ⊥

-- the samples of a recording aren't all read for this: it breaks off; or it can't be read, or
-- memory ran out, of which no stream tells anything
abbrev pub IsFaultOfSamples :
    List Reading → Option (List ℕ) → Option (List ℕ) → Piece → Piece → RecordingFault → Type 0
IsFaultOfSamples lists input rest first last (BreaksOff at) =
    HasBrokenOff lists input rest first last at
IsFaultOfSamples lists input rest first last Unreadable = Unit {0}
IsFaultOfSamples lists input rest first last Memory = Unit {0}
IsFaultOfSamples lists input rest first last _ = ⊥

-- a piece and the rest of the input behind it are a recording of these samples
pub record IsWhole (lists : List Reading) (samples : List (ℕ × Recorded)) (rest : Option (List ℕ))
    (piece : Piece)
    : Type 0 where
  -- fixed by `is`
  pub left : List ℕ
  pub is : rest ≡ Some left
  pub recording : IsRecordingOf (plans_of lists) samples [] (unread_with piece left)

-- they are the front of one, which is torn at its end
pub record IsFront (lists : List Reading) (samples : List (ℕ × Recorded)) (rest : Option (List ℕ))
    (piece : Piece)
    : Type 0 where
  -- fixed by `is`
  pub left : List ℕ
  -- any: of a recording that is torn, the rest is lost
  pub lost : List ℕ
  pub is : rest ≡ Some left
  pub recording : IsRecordingOf (plans_of lists) samples [] (unread_with piece (left ++ lost))

-- the fault is none of the recording: it can't be read, or memory ran out
abbrev pub IsOfStream : RecordingFault → Type 0
IsOfStream Unreadable = Unit {0}
IsOfStream Memory = Unit {0}
IsOfStream _ = ⊥

-- or the recording is torn: it breaks off at the end of the input, within a frame or a sample
abbrev pub IsOfTear : Option (List ℕ) → RecordingFault → Type 0
IsOfTear rest (BreaksOff at) = IsAtEnd rest × ((at.why ≡ torn) ⊎ (at.why ≡ WithinSample))
IsOfTear rest fault = IsOfStream fault
