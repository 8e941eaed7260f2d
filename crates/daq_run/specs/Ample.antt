-- Rings that hold all that would be sent if nothing were refused for lack of room.
use Rattle.std.specs.Prelude.{◌≡◌, ◌≢◌, ℕ, ◌≤◌, Bool, true, cond, List, [], ◌∷◌, ◌++◌, length}
use Rattle.std.specs.Prelude.{replicate, slice_get, Some}
use Rattle.std.specs.Option.{is_none}
use Rattle.channel_ring.specs.Room.{units}
use Rattle.sampler.specs.History.{Event, Opening, due}
use Rattle.sampler.specs.Past.{Past}
use Rattle.sampler.specs.Standing.{DropsOnlyWhenFull}
use Rattle.sampler.specs.declared.faults.StopFault.TheVariants.{NoRoom}
use Rattle.daq_run.specs.declared.cause.Cause.TheVariants.{Stop as OfStop}
use Rattle.daq_run.specs.Answers.{Answered, AreAnswered, Setting, event_refusal}
use Rattle.daq_run.specs.StepRuns.{sent_in}

-- the decisions of a history in which no sample is dropped
abbrev pub no_drops : Opening → List Event → List Bool
no_drops opening h = replicate (length (due opening h)) true

-- what a channel with this history has behind it, if no sample was dropped
abbrev pub whole_past : Opening → List Event → Past
whole_past opening h = record { opening = opening; history = h; decisions = no_drops opening h }

-- of what is asked after a history, what is accepted if nothing is refused for lack of room
abbrev pub fit_events : ℕ → Opening → List Event → List Event → List Event
fit_events image_len opening h [] = []
fit_events image_len opening h (e ∷ es) =
    cond (is_none (event_refusal image_len (whole_past opening h) e))
    (e ∷ fit_events image_len opening (h ++ e ∷ []) es)
    (fit_events image_len opening h es)

-- what a channel comes to that is asked for this from its opening on, if nothing is refused for
-- lack of room
abbrev pub ample_past : Setting → Opening → List Event → Past
ample_past s opening asked = whole_past opening (fit_events s.image_len opening [] asked)

-- the capacity is enough for all that it then sends
abbrev pub HoldsAll : Setting → Opening → List Event → Type 0
HoldsAll s opening asked = units s.cost (sent_in (ample_past s opening asked)) ≤ s.capacity

-- the channel came to that: no sample was dropped, and no stop refused for lack of room
pub record DropsNothing (s : Setting) (asked : List Event) (told : List Answered) (past : Past)
    : Type 0 where
  pub history : past.history ≡ (ample_past s past.opening asked).history
  pub decisions : past.decisions ≡ (ample_past s past.opening asked).decisions
  pub no_room : (i : ℕ) (e : Event) → slice_get told i ≢ Some (e, Some (OfStop NoRoom))

-- so does each channel whose ring holds all
abbrev pub AmpleRingsDropNothing : Type 0
AmpleRingsDropNothing =
    (s : Setting) (asked : List Event) (told : List Answered) (past : Past)
    → HoldsAll s past.opening asked → AreAnswered s asked told past
    → length past.decisions ≡ length (due past.opening past.history)
    → DropsOnlyWhenFull s.capacity s.cost past → DropsNothing s asked told past
