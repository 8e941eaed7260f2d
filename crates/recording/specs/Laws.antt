-- What an engine wrote is, for the reader of its lists, a recording of the samples that its event
-- channels accepted.
use Rattle.std.specs.Prelude.{◌≡◌, ℕ, ◌+◌, ◌<◌, Bool, false, true, All, List, [], ◌++◌, length}
use Rattle.std.specs.Prelude.{slice_get, None, Some}
use mathlib.Core.List.{IsPrefix}
use Rattle.copy_plan.specs.Config.{ListPlan}
use Rattle.frame_writer.specs.Writing.{WriterState}
use Rattle.sampler.specs.Past.{Past}
use Rattle.sampler.specs.State.{JoinedEnd}
use Rattle.transmitter.specs.Merge.{of_ring}
use Rattle.transmitter.specs.Written.{TransmitterState}
use Rattle.daq_engine.specs.Configuration.{IsConfiguration}
use Rattle.daq_engine.specs.Frames.{IsTornAt}
use Rattle.daq_engine.specs.Headline.{Headline}
use Rattle.daq_engine.specs.Order.{items_of}
use Rattle.daq_engine.specs.declared.report.Report.{Report}
use Rattle.daq_reader.specs.Frames.{Unread}
use Rattle.daq_reader.specs.Lists.{given}
use Rattle.daq_reader.specs.Recorded.{Recorded}
use Rattle.daq_reader.specs.Recording.{IsRecordingOf}
use Rattle.recording.specs.Accepted.{HasImages, recorded_of}
use Rattle.recording.specs.Plans.{AreAllPlans}

-- what is to be read is a recording of these samples, each of which is of a list that is there;
-- those of each list are the first that its channel accepted
pub record IsRecordingOfFirst (n : ℕ) (past : ℕ → Past) (plans : List ListPlan)
    (samples : List (ℕ × Recorded)) (a : Unread)
    : Type 0 where
  pub recording : IsRecordingOf plans samples [] a
  pub of_lists : All (λ (s : ℕ × Recorded). s.0 < length plans) samples
  pub first :
      (i c k : ℕ) (plan : ListPlan) → slice_get plans i ≡ Some plan → c < n
      → slice_get (past c).opening.plans k ≡ Some plan
      → IsPrefix (given i samples) (recorded_of (past c) plan)

-- what a frame writer's bytes gained since `start` is such a recording, for a reader who awaits the
-- counter that was next at `start`: of a channel all of whose items were received, while no sample
-- is in hand, it has all that was accepted. What follows it is nothing, or, if the writer failed or
-- stalled, a proper prefix of the frames that the sample in hand would have had there
pub record IsReadBack (n : ℕ) (past : ℕ → Past) (plans : List ListPlan) (start : WriterState)
    (t : TransmitterState) (failed : Bool)
    : Type 0 where
  -- the samples, whole frames, and what stands behind these: fixed by `gained` and `read`
  pub samples : List (ℕ × Recorded)
  pub whole : List ℕ
  pub behind : List ℕ
  pub gained : t.writer.out.contents ≡ start.out.contents ++ (whole ++ behind)
  pub read :
      IsRecordingOfFirst n past plans samples
      (record { rest = whole; counter = start.counter })
  pub all_given :
      (i c k : ℕ) (plan : ListPlan) → slice_get plans i ≡ Some plan → c < n
      → slice_get (past c).opening.plans k ≡ Some plan
      → of_ring t.received c ≡ items_of (past c) → t.hand ≡ None
      → given i samples ≡ recorded_of (past c) plan
  pub none_behind : failed ≡ false → behind ≡ []
  pub torn :
      failed ≡ true → IsTornAt (start.counter + length read.recording.packets) t.hand behind

-- what an engine wrote behind whatever its frame writer had written before is read back so, for
-- every order of the plans that its channels were opened with, once each image was as long as they
-- say (an engine accepts no other)
abbrev pub WrittenIsReadBack : Type 0
WrittenIsReadBack =
    (start : WriterState) (t : TransmitterState) (ends : List JoinedEnd) (past : ℕ → Past)
    (report : Report) (plans : List ListPlan)
    → IsConfiguration (length ends) (λ c. (past c).opening) → Headline start t ends past report
    → ((c : ℕ) → c < length ends → HasImages (past c)) → AreAllPlans (length ends) past plans
    → IsReadBack (length ends) past plans start t report.failed
