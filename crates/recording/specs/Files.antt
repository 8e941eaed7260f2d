-- What is shown of a file that has a recording behind the replies to a set-up, and why it isn't.
use Rattle.std.specs.Prelude.{◌≡◌, ℕ, ◌%◌, ◌<◌, Bool, true, false, List, [], ◌++◌, length}
use Rattle.std.specs.Prelude.{IfSome, Option, Some, None}
use Rattle.std.specs.Option.{option_copied}
use Rattle.std.specs.Io.{StartsWith}
use Rattle.std.specs.Io.KnownBytes.{Consumes}
use Rattle.a2l.specs.declared.description.Description.{Description}
use Rattle.daq_reader.specs.Lists.{plans_of}
use Rattle.daq_reader.specs.Reading.{Reading}
use Rattle.daq_reader.specs.Ready.{ready_lists}
use Rattle.daq_reader.specs.Recorded.{Recorded}
use Rattle.daq_reader.specs.Recording.{IsRecordingOf}
use Rattle.daq_run.specs.SetUps.{IsStoreAfter, replies_of}
use Rattle.frame_writer.specs.Frame.{text}
use Rattle.run_file.specs.RunFile.{RunData}
use Rattle.recording.specs.ByName.{AreAsked, IsFaultOfValues, ShowsByName}
use Rattle.recording.specs.declared.view.View.{View}
use Rattle.recording.specs.declared.run_recording.RunRecording.{RunRecording}
use Rattle.recording.specs.declared.piece.Piece.{Piece}
use Rattle.recording.specs.declared.recording_fault.RecordingFault.{RecordingFault}
use Rattle.recording.specs.declared.recording_fault.RecordingFault.TheVariants.{InReplies, Memory}
use Rattle.recording.specs.declared.recording_fault.RecordingFault.TheVariants.{NoValue, OtherRun}
use Rattle.recording.specs.declared.recording_fault.RecordingFault.TheVariants.{Unreadable}
use Rattle.recording.specs.declared.values.Values.{Values}
use Rattle.recording.specs.Shown.{IsRead, ShowsAll}
use Rattle.recording.specs.Stops.{IsFaultOfSamples, IsOfStream, IsOfTear}

-- the replies of a recording were passed: they were taken off the file, and behind them the bytes
-- of the piece, whose place is the one behind them
pub record ArePassed (recorded : RunRecording) (input rest : Option (List ℕ)) (piece : Piece)
    : Type 0 where
  pub begins : Consumes input rest (recorded.replies.now ++ piece.bytes.items)
  pub place :
      piece.place
      ≡ record { byte = length recorded.replies.now; frame = length recorded.run.now.setup }

-- the samples of a recording are shown as is asked for; in words it is told only that they are read
abbrev pub ShowsSamples :
    Bool → View → List Reading → Option (List ℕ) → Option (List ℕ) → Piece → Piece
    → Option (List ℕ) → Option (List ℕ) → Type 0
ShowsSamples true view lists input rest first last before after =
    IsRead lists input rest first last
ShowsSamples false view lists input rest first last before after =
    ShowsAll view.mode lists input rest first last before after

-- what stands behind the replies is shown: by name, if there is an A2L file
abbrev pub ShowsBehind :
    View → Option Description → List Reading → Option (List ℕ) → Option (List ℕ)
    → Piece → Piece → Option (List ℕ) → Option (List ℕ) → Type 0
ShowsBehind view (Some description) lists input rest first last before after =
    (values : Values) × AreAsked view description values
    × ShowsByName values lists input rest first last before after
ShowsBehind view None lists input rest first last before after =
    ShowsSamples view.explain view lists input rest first last before after

-- the replies of a file were passed, and what it has behind them was read from one piece to
-- another, of which this is so
pub record IsReadBehind (recorded : RunRecording) (input rest : Option (List ℕ))
    (IsSo : Option (List ℕ) → Piece → Piece → Type 0)
    : Type 0 where
  -- fixed by `passed`, but for how much of it stands in the piece
  pub behind : Option (List ℕ)
  pub first : Piece
  -- fixed by `is`: what is still at hand
  pub last : Piece
  pub passed : ArePassed recorded input behind first
  pub is : IsSo behind first last

-- a file was read to its end
abbrev pub IsReadFile : RunRecording → Option (List ℕ) → Option (List ℕ) → Type 0
IsReadFile recorded input rest =
    IsReadBehind recorded input rest
    (λ behind first last. IsRead (ready_lists recorded.store.now) behind rest first last)

-- and all that is asked for is shown of it
abbrev pub ShowsFile :
    View → RunRecording → Option (List ℕ) → Option (List ℕ) → Option (List ℕ)
    → Option (List ℕ) → Type 0
ShowsFile view recorded input rest before after =
    IsReadBehind recorded input rest
    (λ behind first last. ShowsBehind view (option_copied recorded.description)
    (ready_lists recorded.store.now) behind rest first last before after)

-- the replies and the store of a recording are those that the set-up of a run leaves
pub record IsOfRun (run : RunData) (recorded : RunRecording) : Type 0 where
  pub is : recorded.run.now ≡ run
  pub replies : recorded.replies.now ≡ text 0 (replies_of run)
  pub store : IsStoreAfter run recorded.store.now run.setup

-- what stands behind the replies isn't shown for this
abbrev pub IsFaultBehind :
    View → Option Description → List Reading → Option (List ℕ) → Option (List ℕ)
    → Piece → Piece → RecordingFault → Type 0
IsFaultBehind view (Some description) lists input rest first last fault =
    (values : Values) × AreAsked view description values
    × IsFaultOfValues values lists input rest first last fault
IsFaultBehind view None lists input rest first last fault =
    IsFaultOfSamples lists input rest first last fault

-- the replies of a file weren't passed for this: it doesn't begin with them, or is a front of
-- theirs; it can't be read, or memory ran out
abbrev pub IsFaultOfReplies : RunRecording → Option (List ℕ) → RecordingFault → Type 0
IsFaultOfReplies recorded input OtherRun =
    IfSome input (λ bytes. ¬ StartsWith bytes recorded.replies.now)
IsFaultOfReplies recorded input InReplies =
    IfSome input (λ bytes.
    StartsWith recorded.replies.now bytes × (length bytes < length recorded.replies.now))
IsFaultOfReplies recorded input Unreadable = Unit {0}
IsFaultOfReplies recorded input Memory = Unit {0}
IsFaultOfReplies recorded input fault = ⊥

-- a file isn't shown for this: it doesn't begin with the replies, or is a front of theirs; it can't
-- be read, or memory ran out; or what stands behind the replies isn't shown
abbrev pub IsFaultOfFile :
    View → RunRecording → Option (List ℕ) → Option (List ℕ) → RecordingFault → Type 0
IsFaultOfFile view recorded input rest OtherRun =
    IfSome input (λ bytes. ¬ StartsWith bytes recorded.replies.now)
IsFaultOfFile view recorded input rest InReplies =
    IfSome input (λ bytes.
    StartsWith recorded.replies.now bytes × (length bytes < length recorded.replies.now))
IsFaultOfFile view recorded input rest Unreadable = Unit {0}
IsFaultOfFile view recorded input rest Memory = Unit {0}
IsFaultOfFile view recorded input rest fault =
    IsReadBehind recorded input rest
    (λ behind first last. IsFaultBehind view (option_copied recorded.description)
    (ready_lists recorded.store.now) behind rest first last fault)

-- behind the replies a file has these bytes, which the lost ones make a recording of these samples
pub record IsFileWith (recorded : RunRecording) (samples : List (ℕ × Recorded)) (lost : List ℕ)
    (file : Option (List ℕ))
    : Type 0 where
  -- fixed by `begins`
  pub behind : List ℕ
  pub begins : file ≡ Some (recorded.replies.now ++ behind)
  pub recording :
      IsRecordingOf (plans_of (ready_lists recorded.store.now)) samples []
      (record { rest = behind ++ lost; counter = length recorded.run.now.setup % 65536 })

-- the fault isn't the recording's: it can't be read, memory ran out, or no measurement that is
-- chosen is there
abbrev pub IsNotOfRecording : RecordingFault → Type 0
IsNotOfRecording NoValue = Unit {0}
IsNotOfRecording fault = IsOfStream fault

-- or the recording is torn at its end
abbrev pub IsOfTearOr : Option (List ℕ) → RecordingFault → Type 0
IsOfTearOr rest NoValue = Unit {0}
IsOfTearOr rest fault = IsOfTear rest fault
