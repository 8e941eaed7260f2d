-- Two outcomes of one run: if the rings refused the same offers, they are the same.
use Rattle.std.specs.Prelude.{◌≡◌, ℕ, ◌<◌, false, List, map}
use Rattle.daq_store.specs.Standing.{StoreState}
use Rattle.frame_writer.specs.Shown.{OutState, after_bytes}
use Rattle.run_file.specs.RunFile.{RunData}
use Rattle.sampler.specs.History.{Opening}
use Rattle.sampler.specs.Past.{Past}
use Rattle.daq_engine.specs.Openings.{IsOpeningOf}
use Rattle.daq_engine.specs.declared.report.Report.{Report}
use Rattle.daq_run.specs.Answers.{Answered}
use Rattle.daq_run.specs.StepLaws.{RefusesAlike}
use Rattle.daq_run.specs.StepRuns.{told_of}
use Rattle.daq_run.specs.Steps.{asked_of, run_step}
use Rattle.daq_run.specs.Ample.{HoldsAll}
use Rattle.daq_run.specs.Runs.{ComesTo, settings_of_run}
use Rattle.daq_run.specs.SetUps.{IsStoreAfter}

-- what a run in one thread came to: what its writer showed before and after, how many of its steps
-- were refused, and the account
pub record RunOutcome (run : RunData) : Type 0 where
  -- any: the rest is said of these
  pub before : OutState
  pub after : OutState
  pub refused : ℕ
  pub report : Report
  pub comes_to : ComesTo run before refused report after

-- what channel c had behind it at last, and what it was told
abbrev pub past_of : {run : RunData} → RunOutcome run → ℕ → Past
past_of o c = o.comes_to.has_run.past c

abbrev pub told_in : {run : RunData} → RunOutcome run → ℕ → List Answered
told_in o c = told_of c o.comes_to.has_run.done

-- the writer didn't fail, neither at the steps nor at the drain
abbrev pub IsWritten : {run : RunData} → RunOutcome run → Type 0
IsWritten o = o.report.failed ≡ false

-- in both, the ring of each channel refused the same offers: the samples of the same due lists, and
-- the markers of the same stops
abbrev pub RefuseAlike : {run : RunData} → RunOutcome run → RunOutcome run → Type 0
RefuseAlike {run} a b =
    (c : ℕ) → c < run.channels
    → RefusesAlike (told_in a c) (past_of a c) (told_in b c) (past_of b c)

-- both writers took the same bytes since the run began, and nothing went wrong at either; the lines
-- of the accounts are the same, as many steps were refused, and each channel came to the same past
pub record AreSame {run : RunData} (a b : RunOutcome run) : Type 0 where
  -- fixed by `first`
  pub gained : List ℕ
  pub first : a.after ≡ after_bytes a.before gained
  pub second : b.after ≡ after_bytes b.before gained
  pub lines : a.report.lists.items ≡ b.report.lists.items
  pub failed : a.report.failed ≡ b.report.failed
  pub refused : a.refused ≡ b.refused
  pub pasts : (c : ℕ) → c < run.channels → past_of a c ≡ past_of b c

-- what comes of a run whose writer doesn't fail is a function of the run and of which offers its
-- rings refused
abbrev pub RefusalsDecideRuns : RunData → Type 0
RefusalsDecideRuns run =
    (a b : RunOutcome run) → IsWritten a → IsWritten b → RefuseAlike a b → AreSame a b

-- the ring of each channel has room for all that the run's steps would have it send, from its
-- opening in the store that the set-up leaves, if nothing were refused for lack of room
abbrev pub RingsHoldAll : RunData → Type 0
RingsHoldAll run =
    (store : StoreState) (c : ℕ) (opening : Opening)
    → IsStoreAfter run store run.setup → c < run.channels → IsOpeningOf store c opening
    → HoldsAll (settings_of_run run c) opening (asked_of c (map run_step run.steps))

-- what comes of such a run, whose writer doesn't fail, is a function of the run alone
abbrev pub AmpleRunsAreSame : RunData → Type 0
AmpleRunsAreSame run =
    RingsHoldAll run → (a b : RunOutcome run) → IsWritten a → IsWritten b → AreSame a b
