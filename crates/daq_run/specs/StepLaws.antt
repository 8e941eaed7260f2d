-- What the steps of a run come to follows from what the rings refused.
use Rattle.std.specs.Prelude.{◌≡◌, ℕ, ◌<◌, All, Bool, false, true, List, map, Option, None, Some}
use Rattle.sampler.specs.Past.{Past}
use Rattle.sampler.specs.declared.faults.StopFault.TheVariants.{NoRoom, NotOfChannel, NotRunning}
use Rattle.daq_run.specs.declared.cause.Cause.{Cause}
use Rattle.daq_run.specs.declared.cause.Cause.TheVariants.{Start as OfStart, Stop as OfStop}
use Rattle.daq_run.specs.declared.cause.Cause.TheVariants.{Trigger as OfTrigger}
use Rattle.daq_run.specs.Answers.{Answered, Setting}
use Rattle.daq_run.specs.StepRuns.{AreDone, Done, IsStepOf, told_of}
use Rattle.daq_run.specs.Steps.{RunStep}

-- so is answered a stop whose marker the ring refused
abbrev pub is_no_room : Option Cause → Bool
is_no_room None = false
is_no_room (Some (OfTrigger fault)) = false
is_no_room (Some (OfStart fault)) = false
is_no_room (Some (OfStop NotOfChannel)) = false
is_no_room (Some (OfStop NotRunning)) = false
is_no_room (Some (OfStop NoRoom)) = true

-- of what a channel was asked for, in order, whether its ring refused the marker of a stop
abbrev pub markers_refused : List Answered → List Bool
markers_refused told = map (λ (a : Answered). is_no_room a.1) told

-- the ring of a channel, which was told these answers and came to this past, refused the same
-- offers as one that was told those and came to that: of the samples that were due, in order, the
-- same, and the markers of the same stops
pub record RefusesAlike (told : List Answered) (past : Past) (again : List Answered) (other : Past)
    : Type 0 where
  pub samples : past.decisions ≡ other.decisions
  pub markers : markers_refused told ≡ markers_refused again

-- if the same steps over n channels were done twice, from the same openings, the rings refused the
-- same offers, and the writer didn't fail, then the same was done: each step was answered alike,
-- and the same items were taken in the same order; and each channel came to the same past
abbrev pub RefusalsDecide : Type 0
RefusalsDecide =
    (n : ℕ) (settings : ℕ → Setting) (steps : List RunStep) (past other : ℕ → Past)
    (done again : List Done)
    → All (IsStepOf n) steps
    → AreDone n settings steps false past done → AreDone n settings steps false other again
    → ((c : ℕ) → c < n → (past c).opening ≡ (other c).opening)
    → ((c : ℕ) → c < n → RefusesAlike (told_of c done) (past c) (told_of c again) (other c))
    → (done ≡ again) × ((c : ℕ) → c < n → past c ≡ other c)
