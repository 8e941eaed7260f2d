-- What a run writes whose rings hold all that its channels send, in whatever schedule.
use Rattle.std.specs.Prelude.{◌≡◌, ℕ, ◌<◌, Any, true, false, List, count_by, nat_eq, slice_get}
use Rattle.std.specs.Prelude.{Some}
use Rattle.xcp_base.specs.declared.item.Item.{Item}
use Rattle.copy_plan.specs.Config.{ListPlan}
use Rattle.frame_writer.specs.Shown.{OutState}
use Rattle.frame_writer.specs.Writing.{WriterState}
use Rattle.run_file.specs.RunFile.{RunData}
use Rattle.sampler.specs.History.{Event, due}
use Rattle.sampler.specs.Past.{Past}
use Rattle.transmitter.specs.Items.{packets_of, samples}
use Rattle.transmitter.specs.Written.{TransmitterState}
use Rattle.daq_engine.specs.Filters.{of_channel}
use Rattle.daq_engine.specs.Frames.{packets_of_frames}
use Rattle.daq_engine.specs.declared.report.ListReport.{ListReport}
use Rattle.daq_engine.specs.declared.report.Report.{Report}
use Rattle.daq_run.specs.Answers.{Answered}
use Rattle.daq_run.specs.StepRuns.{sent_in}
use Rattle.daq_run.specs.Ample.{DropsNothing, ample_past}
use Rattle.daq_run.specs.Runs.{IsClosed, settings_of_run}

-- the line of a list of which each due sample was written
pub record IsWholeLine (past : Past) (plan : ListPlan) (line : ListReport) : Type 0 where
  pub of_plan : line.list ≡ plan.list
  pub due :
      line.due
      ≡ count_by (λ (pair : ℕ × ℕ). nat_eq pair.1 plan.list) (due past.opening past.history)
  pub written : line.written ≡ line.due
  pub dropped : line.dropped ≡ 0
  pub left : line.left ≡ 0

-- all that a channel with this past sent was written, and nothing dropped: its packets among those
-- written, and the line of each of its lists
pub record WritesWhole (past : Past) (qs : List (List ℕ)) (account : List ListReport)
    : Type 0 where
  pub packets : of_channel past.opening qs ≡ packets_of (samples (sent_in past))
  pub lines :
      (i : ℕ) (plan : ListPlan) → slice_get past.opening.plans i ≡ Some plan
      → Any (IsWholeLine past plan) account

-- if a run was closed after a drain, its writer didn't fail, and a channel of it dropped nothing
-- of what it was asked for, that channel's packets and lines are those of its opening and of what
-- it was asked for alone: the same in one thread and in every schedule of many
abbrev pub AmpleRunsAreWhole : Type 0
AmpleRunsAreWhole =
    (run : RunData) (writer : WriterState) (past : ℕ → Past) (taken : List (ℕ × Item))
    (t : TransmitterState) (report : Report) (after : OutState)
    → (closed : IsClosed run writer past taken t report after)
    → run.drain ≡ true → report.failed ≡ false
    → (c : ℕ) → c < run.channels → (asked : List Event) (told : List Answered)
    → DropsNothing (settings_of_run run c) asked told (past c)
    → WritesWhole (ample_past (settings_of_run run c) (past c).opening asked)
    (packets_of_frames closed.closed.headline.frames) report.lists.items
