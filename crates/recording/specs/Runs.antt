-- What a run wrote is, behind the replies of its set-up, a recording of the samples that its event
-- channels accepted.
use Rattle.std.specs.Prelude.{◌≡◌, ℕ, ◌+◌, ◌%◌, ◌<◌, false, true, List, [], ◌++◌, length}
use Rattle.std.specs.Prelude.{slice_get, Some}
use Rattle.copy_plan.specs.Config.{ListPlan}
use Rattle.daq_store.specs.Standing.{StoreState}
use Rattle.frame_writer.specs.Frame.{text}
use Rattle.frame_writer.specs.Shown.{OutState}
use Rattle.run_file.specs.RunFile.{RunData}
use Rattle.sampler.specs.Past.{Past}
use Rattle.transmitter.specs.Written.{TransmitterState}
use Rattle.daq_engine.specs.Frames.{IsTornAt}
use Rattle.daq_engine.specs.declared.report.Report.{Report}
use Rattle.daq_reader.specs.Lists.{given}
use Rattle.daq_reader.specs.Recorded.{Recorded}
use Rattle.daq_run.specs.Runs.{ComesTo}
use Rattle.daq_run.specs.SetUps.{IsStoreAfter, replies_of}
use Rattle.daq_run.specs.Threads.{ThreadsComeTo}
use Rattle.recording.specs.Accepted.{recorded_of}
use Rattle.recording.specs.Laws.{IsRecordingOfFirst}
use Rattle.recording.specs.Plans.{plans_in}

-- of a run with this report, whose channels came to these pasts, and whose transmitter was this at
-- last: what its writer took since it began are the frames of the replies, and behind them a
-- recording of samples of the ready lists of this store, for a reader who awaits the counter behind
-- the replies; of each list the first that its channel accepted, and all of them after a drain at
-- which the writer didn't fail. What follows it is nothing, or, if the writer failed or stalled, a
-- proper prefix of the frames that the sample in hand would have had there
pub record IsRunReadBack (run : RunData) (before after : OutState) (report : Report)
    (past : ℕ → Past) (last : TransmitterState) (store : StoreState)
    : Type 0 where
  -- the samples, whole frames, and what stands behind these: fixed by `gained` and `read`
  pub samples : List (ℕ × Recorded)
  pub whole : List ℕ
  pub behind : List ℕ
  pub gained :
      after.contents ≡ before.contents ++ (text 0 (replies_of run) ++ (whole ++ behind))
  pub read :
      IsRecordingOfFirst run.channels past (plans_in store) samples
      (record { rest = whole; counter = length (replies_of run) % 65536 })
  pub all_given :
      run.drain ≡ true → report.failed ≡ false → (i c k : ℕ) (plan : ListPlan)
      → slice_get (plans_in store) i ≡ Some plan → c < run.channels
      → slice_get (past c).opening.plans k ≡ Some plan
      → given i samples ≡ recorded_of (past c) plan
  pub none_behind : report.failed ≡ false → behind ≡ []
  pub torn :
      report.failed ≡ true
      → IsTornAt (length (replies_of run) + length read.recording.packets) last.hand behind

-- so it is of what a run in one thread came to, for the lists of any store that its set-up leaves
abbrev pub WrittenRunIsReadBack : Type 0
WrittenRunIsReadBack =
    (run : RunData) (before after : OutState) (refused : ℕ) (report : Report) (store : StoreState)
    → (r : ComesTo run before refused report after) → IsStoreAfter run store run.setup
    → IsRunReadBack run before after report r.has_run.past r.closed.closed.last store

-- and of what a run in threads came to
abbrev pub WrittenInThreadsIsReadBack : Type 0
WrittenInThreadsIsReadBack =
    (run : RunData) (before after : OutState) (refused : ℕ) (report : Report) (store : StoreState)
    → (r : ThreadsComeTo run before refused report after) → IsStoreAfter run store run.setup
    → IsRunReadBack run before after report r.has_run.past r.closed.closed.last store
