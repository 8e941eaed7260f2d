-- What a run comes to.
use Rattle.std.specs.Prelude.{◌≡◌, ℕ, ◌<◌, true, false, List, count_by, length, map, slice_get}
use Rattle.std.specs.Prelude.{slice_index, Some}
use Rattle.xcp_base.specs.declared.item.Item.{Item}
use Rattle.xcp_base.specs.declared.limits.TheConstants.{MAX_TAKEN}
use Rattle.byte_ring.specs.Records.{record_len}
use Rattle.daq_store.specs.Standing.{IsStore, StoreState}
use Rattle.frame_writer.specs.Shown.{OutState}
use Rattle.frame_writer.specs.Writing.{WriterState}
use Rattle.run_file.specs.RunFile.{RunData}
use Rattle.xcp_base.specs.declared.ring_kind.RingKind.{RingKind}
use Rattle.xcp_base.specs.declared.ring_kind.RingKind.TheVariants.{Bytes, Samples}
use Rattle.sampler.specs.History.{due}
use Rattle.sampler.specs.Past.{Past}
use Rattle.sampler.specs.Standing.{DropsOnlyWhenFull}
use Rattle.sampler.specs.State.{JoinedEnd}
use Rattle.transmitter.specs.Written.{HasTaken, TransmitterState}
use Rattle.daq_engine.specs.Closed.{HasClosed}
use Rattle.daq_engine.specs.Configuration.{IsConfiguration}
use Rattle.daq_engine.specs.Drained.{LeavesNothing}
use Rattle.daq_engine.specs.Openings.{IsOpeningOf, some_list_runs}
use Rattle.daq_engine.specs.declared.report.Report.{Report}
use Rattle.daq_run.specs.Answers.{Setting}
use Rattle.daq_run.specs.StepRuns.{AreDone, Done, is_refused_step, sent_in, taken_in}
use Rattle.daq_run.specs.Steps.{run_step}
use Rattle.daq_run.specs.SetUps.{IsSetUp}

-- what an item takes up in a ring: one place, or the bytes of its record
abbrev pub cost_in : RingKind → Item → ℕ
cost_in Samples = λ item. 1
cost_in Bytes = record_len

-- what channel c of a run goes by
abbrev pub settings_of_run : RunData → ℕ → Setting
settings_of_run run c = record {
  image_len = run.image_len;
  capacity = slice_index run.caps c;
  cost = cost_in run.ring;
}

-- a run was set up and opened, with the replies written by that writer. Its channels have come to
-- these pasts: each with its opening in the store, all of one configuration, a decision for each
-- list that it found due, and drops only within the bound
pub record HasPasts (run : RunData) (before : OutState) (writer : WriterState) (past : ℕ → Past)
    : Type 0 where
  -- fixed by `set_up`
  pub store : StoreState
  pub keeps : IsStore store
  pub set_up : IsSetUp run before store writer
  pub some_list_runs : some_list_runs store ≡ true
  pub openings : (c : ℕ) → c < run.channels → IsOpeningOf store c (past c).opening
  pub configuration : IsConfiguration run.channels (λ c. (past c).opening)
  pub decided :
      (c : ℕ) → c < run.channels
      → length (past c).decisions ≡ length (due (past c).opening (past c).history)
  pub drops :
      (c : ℕ) → c < run.channels
      → DropsOnlyWhenFull (settings_of_run run c).capacity (settings_of_run run c).cost (past c)

-- the steps of such a run were done one after another, of which so many were refused
pub record HasRun (run : RunData) (before : OutState) (refused : ℕ) : Type 0 where
  -- fixed by `has_pasts`
  pub writer : WriterState
  -- what each channel had behind it at last: fixed by `are_done`, but for what its ring refused
  pub past : ℕ → Past
  pub has_pasts : HasPasts run before writer past
  -- what was done: fixed by `are_done`, but for what the rings refused
  pub done : List Done
  pub counted : refused ≡ count_by is_refused_step done
  -- what the transmitter of that writer took and wrote: fixed by `taken`, but for what it knows
  pub transmitter : TransmitterState
  pub taken : HasTaken writer transmitter (taken_in done)
  pub are_done :
      AreDone run.channels (settings_of_run run) (map run_step run.steps) transmitter.writer.closed
      past done

-- the engine of a run, whose transmitter had taken these items, was closed, after a drain if the
-- run says so. The ends are those of its channels, and tell what these sent
pub record IsClosed (run : RunData) (writer : WriterState) (past : ℕ → Past)
    (taken : List (ℕ × Item)) (transmitter : TransmitterState) (report : Report) (after : OutState)
    : Type 0 where
  -- fixed by `as_many`, `sent` and `closed`; of their capacities and costs nothing is said
  pub ends : List JoinedEnd
  pub as_many : length ends ≡ run.channels
  pub sent : (c : ℕ) (e : JoinedEnd) → slice_get ends c ≡ Some e → e.sent ≡ sent_in (past c)
  pub closed : HasClosed run.drain writer taken transmitter ends past report after
  -- a drain doesn't come to the limit of items
  pub few_taken : run.drain ≡ true → closed.last.taken < MAX_TAKEN
  pub nothing_left :
      run.drain ≡ true → report.failed ≡ false
      → LeavesNothing ends past report closed.headline.frames

-- a run in one thread came to this: the replies to its set-up and the frames of its engine, the
-- account, and how many of its steps were refused
pub record ComesTo (run : RunData) (before : OutState) (refused : ℕ) (report : Report)
    (after : OutState)
    : Type 0 where
  pub has_run : HasRun run before refused
  pub closed :
      IsClosed run has_run.writer has_run.past (taken_in has_run.done) has_run.transmitter report
      after
