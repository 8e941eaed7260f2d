-- What a run wrote to a file is read back.
use Rattle.std.specs.Prelude.{◌≡◌, ℕ, ◌%◌, ◌<◌, false, true, List, [], ◌++◌, length, slice_get}
use Rattle.std.specs.Prelude.{Option, Some}
use mathlib.Core.List.{IsPrefix}
use Rattle.copy_plan.specs.Config.{ListPlan}
use Rattle.daq_store.specs.Standing.{StoreState}
use Rattle.frame_writer.specs.Frame.{text}
use Rattle.frame_writer.specs.Shown.{OutState}
use Rattle.run_file.specs.RunFile.{RunData}
use Rattle.sampler.specs.Past.{Past}
use Rattle.daq_engine.specs.declared.report.Report.{Report}
use Rattle.daq_reader.specs.Lists.{given, plans_of}
use Rattle.daq_reader.specs.Ready.{ready_lists}
use Rattle.daq_reader.specs.Recorded.{Recorded}
use Rattle.daq_reader.specs.Recording.{IsRecordingOf}
use Rattle.daq_run.specs.Runs.{ComesTo}
use Rattle.daq_run.specs.SetUps.{IsStoreAfter, replies_of}
use Rattle.daq_run.specs.Threads.{ThreadsComeTo}
use Rattle.recording.specs.Accepted.{recorded_of}
use Rattle.recording.specs.Files.{IsFileWith, IsOfRun}
use Rattle.recording.specs.Pieces.{IsLeftUnread, unread_with}
use Rattle.recording.specs.declared.run_recording.RunRecording.{RunRecording}
use Rattle.recording.specs.declared.piece.Piece.{Piece}

-- a file of a run, whose channels came to these pasts: it has the frames of the replies, and behind
-- them a recording of these samples for the ready lists of the store, however it is cut into a
-- piece and the rest of the input; of each list the first samples that its channel accepted, and
-- all of them after a drain
pub record IsFileOf (run : RunData) (past : ℕ → Past) (store : StoreState) (file : List ℕ)
    : Type 0 where
  -- fixed by `is_recording`, in their order but for samples of lists whose packets stand mixed
  pub samples : List (ℕ × Recorded)
  -- fixed by `begins`
  pub behind : List ℕ
  pub begins : file ≡ text 0 (replies_of run) ++ behind
  pub is_recording :
      (rest : Option (List ℕ)) (piece : Piece) (left : List ℕ)
      → IsLeftUnread rest
      (record { rest = behind; counter = length (replies_of run) % 65536 }) piece
      → rest ≡ Some left
      → IsRecordingOf (plans_of (ready_lists store)) samples [] (unread_with piece left)
  pub first :
      (i c k : ℕ) (plan : ListPlan) → slice_get (plans_of (ready_lists store)) i ≡ Some plan
      → c < run.channels → slice_get (past c).opening.plans k ≡ Some plan
      → IsPrefix (given i samples) (recorded_of (past c) plan)
  pub all :
      run.drain ≡ true → (i c k : ℕ) (plan : ListPlan)
      → slice_get (plans_of (ready_lists store)) i ≡ Some plan → c < run.channels
      → slice_get (past c).opening.plans k ≡ Some plan
      → given i samples ≡ recorded_of (past c) plan

-- so is what a run in one thread wrote, for any store that its set-up leaves
abbrev pub RunFilesAreRead : Type 0
RunFilesAreRead =
    (run : RunData) (before after : OutState) (refused : ℕ) (report : Report) (store : StoreState)
    → (r : ComesTo run before refused report after) → IsStoreAfter run store run.setup
    → report.failed ≡ false → before.contents ≡ []
    → IsFileOf run r.has_run.past store after.contents

-- and what a run in threads wrote
abbrev pub RunFilesInThreadsAreRead : Type 0
RunFilesInThreadsAreRead =
    (run : RunData) (before after : OutState) (refused : ℕ) (report : Report) (store : StoreState)
    → (r : ThreadsComeTo run before refused report after) → IsStoreAfter run store run.setup
    → report.failed ≡ false → before.contents ≡ []
    → IsFileOf run r.has_run.past store after.contents

-- to whoever has the replies and the store of the run, such a file has a whole recording
abbrev pub RunFilesAreWhole : Type 0
RunFilesAreWhole =
    (run : RunData) (before after : OutState) (refused : ℕ) (report : Report)
    (recorded : RunRecording)
    → ComesTo run before refused report after → IsOfRun run recorded
    → report.failed ≡ false → before.contents ≡ []
    → (samples : List (ℕ × Recorded)) × IsFileWith recorded samples [] (Some after.contents)

-- and so has one of a run in threads
abbrev pub RunFilesInThreadsAreWhole : Type 0
RunFilesInThreadsAreWhole =
    (run : RunData) (before after : OutState) (refused : ℕ) (report : Report)
    (recorded : RunRecording)
    → ThreadsComeTo run before refused report after → IsOfRun run recorded
    → report.failed ≡ false → before.contents ≡ []
    → (samples : List (ℕ × Recorded)) × IsFileWith recorded samples [] (Some after.contents)
