-- What the steps of a run do, one after another.
use Rattle.std.specs.Prelude.{◌≡◌, ℕ, ◌+◌, ◌*◌, ◌<◌, ◌++◌, Bool, true, false, cond, nat_eq}
use Rattle.std.specs.Prelude.{List, [], ◌∷◌, count_by, flat_map, length, map, slice_get}
use Rattle.std.specs.Prelude.{Option, None, Some, slice_index, take}
use mathlib.Core.List.{IsPrefix}
use Rattle.xcp_base.specs.declared.item.Item.{Item}
use Rattle.xcp_base.specs.declared.limits.TheConstants.{MAX_TAKEN}
use Rattle.channel_ring.specs.declared.ends.SendEnd.{Ghosts as SendGhosts}
use Rattle.channel_ring.specs.declared.ends.RingEnd.{Ghosts as EndGhosts}
use Rattle.sampler.specs.History.{Event, Opening}
use Rattle.sampler.specs.Items.{items}
use Rattle.sampler.specs.Past.{Past}
use Rattle.sampler.specs.State.{SamplerState}
use Rattle.frame_writer.specs.Writing.{WriterState}
use Rattle.transmitter.specs.Merge.{of_ring, taken_from}
use Rattle.transmitter.specs.Rounds.{round}
use Rattle.daq_engine.specs.Asking.{image_len_at}
use Rattle.daq_engine.specs.Engines.{EngineState, Standing, Stands, StaysBut}
use Rattle.daq_engine.specs.Events.{with_event}
use Rattle.daq_run.specs.declared.cause.Cause.{Cause}
use Rattle.daq_run.specs.Answers.{Answered, AreAnswered, IsAnswer, Setting, accepted, until}
use Rattle.daq_run.specs.Steps.{Ask, Pump, RunStep, asked_of}

-- a step that was done: something was asked of a channel, and answered; or the rings were pumped,
-- and these items were taken, each from its ring
pub data Done : Type 0 where
  Told : (channel : ℕ) → (event : Event) → (answer : Option Cause) → Done
  Pumped : (taken : List (ℕ × Item)) → Done

abbrev pub step_done : Done → RunStep
step_done (Told c event answer) = Ask c event
step_done (Pumped taken) = Pump

-- what channel c was asked for, with its answer
abbrev pub told_at : ℕ → Done → List Answered
told_at c (Told k event answer) = cond (nat_eq c k) ((event, answer) ∷ []) []
told_at c (Pumped taken) = []

abbrev pub told_of : ℕ → List Done → List Answered
told_of c done = flat_map (told_at c) done

-- what was taken
abbrev pub taken_at : Done → List (ℕ × Item)
taken_at (Told c event answer) = []
taken_at (Pumped taken) = taken

abbrev pub taken_in : List Done → List (ℕ × Item)
taken_in done = flat_map taken_at done

-- it was refused
abbrev pub is_refused_step : Done → Bool
is_refused_step (Told c event None) = false
is_refused_step (Told c event (Some cause)) = true
is_refused_step (Pumped taken) = false

-- what channel c sent with this behind it
abbrev pub sent_in : Past → List Item
sent_in past = items past.opening past.history past.decisions

-- of n rings, to which the channels sent so much and of which this was taken before, a pump takes
-- the first item left in each that has one, in rising channel; if the writer fails, the first of
-- these, or none
pub record TakesFront (n : ℕ) (sent : ℕ → List Item) (before : List (ℕ × Item)) (failed : Bool)
    (qs : List (ℕ × Item))
    : Type 0 where
  -- what was left in each ring: fixed by `leaves`
  pub left : List (List Item)
  pub as_many : length left ≡ n
  pub leaves : (c : ℕ) → c < n → taken_from c before ++ of_ring left c ≡ sent c
  pub front : IsPrefix qs (round 0 left)
  pub whole : failed ≡ false → qs ≡ round 0 left

-- what channel c had behind it after so many of the steps that were done
abbrev pub past_after : (ℕ → Past) → List Done → ℕ → ℕ → Past
past_after past done i c = until (past c) (accepted (told_of c (take i done)))

-- the steps of a run over n channels were done one after another and came to these pasts: what was
-- asked of each channel was answered, and each pump took from what the steps before it had left.
-- `failed` tells whether the writer has failed
pub record AreDone (n : ℕ) (settings : ℕ → Setting) (steps : List RunStep) (failed : Bool)
    (past : ℕ → Past) (done : List Done)
    : Type 0 where
  pub steps_done : map step_done done ≡ steps
  pub answered :
      (c : ℕ) → c < n
      → AreAnswered (settings c) (asked_of c steps) (told_of c done) (past c)
  pub pumped :
      (i : ℕ) (qs : List (ℕ × Item)) → slice_get done i ≡ Some (Pumped qs)
      → TakesFront n (λ c. sent_in (past_after past done i c)) (taken_in (take i done)) failed qs

-- what the samplers of channels 0, 1, .. go by
abbrev pub settings_of_samplers :
    {S E : Type 0} → SendGhosts S E → EndGhosts E → List (SamplerState S) → ℕ → Setting
settings_of_samplers send ring samplers c = record {
  image_len = image_len_at samplers c;
  capacity = slice_index (map (λ (s : SamplerState _). send.capacity s.end) samplers) c;
  cost = ring.cost;
}

-- the step is a pump, or of one of n channels
abbrev pub IsStepOf : ℕ → RunStep → Type 0
IsStepOf n (Ask c event) = c < n
IsStepOf n Pump = Unit {0}

-- what an engine stands after when one of its channels was asked for this, and answered so
abbrev pub after_answer : ℕ → Event → List Bool → Option Cause → Standing → Standing
after_answer c e ds None st = with_event c e ds st
after_answer c e ds (Some cause) st = st

-- channel c of an engine was asked for this and answered so
abbrev pub AnswersAt :
    {S E : Type 0} → SendGhosts S E → EndGhosts E → EngineState S → EngineState S → ℕ → Event
    → Option Cause → Type 0
AnswersAt send ring before after c e answer =
    (st : Standing) → Stands send ring before st
    → IsAnswer (settings_of_samplers send ring before.samplers c) (st.past c) e answer
    × ((ds : List Bool) × Stands send ring after (after_answer c e ds answer st))

-- an engine was asked for what a step asks, and answered so; of the other channels nothing changed.
-- A pump step asks nothing
abbrev pub AnswersStepAt :
    {S E : Type 0} → SendGhosts S E → EndGhosts E → EngineState S → EngineState S → RunStep
    → Option Cause → Type 0
AnswersStepAt send ring before after (Ask c e) answer =
    AnswersAt send ring before after c e answer × StaysBut send c before after
AnswersStepAt send ring before after Pump answer = answer ≡ None

-- since its opening an engine did these steps, of which so many were refused
pub record HasDone {S E : Type 0} (send : SendGhosts S E) (ring : EndGhosts E) (e : EngineState S)
    (start : WriterState) (openings : ℕ → Opening) (steps : List RunStep) (refused : ℕ)
    : Type 0 where
  -- what each channel came to: fixed by `opened` and `are_done`
  pub past : ℕ → Past
  pub opened : (c : ℕ) → (past c).opening ≡ openings c
  -- what was done at each step: fixed by `are_done`, with the steps
  pub done : List Done
  pub are_done :
      AreDone (length e.samplers) (settings_of_samplers send ring e.samplers) steps
      e.transmitter.writer.closed past done
  pub counted : refused ≡ count_by is_refused_step done
  pub stands :
      Stands send ring e (record { start = start; past = past; taken = taken_in done })

-- an engine did one step more, at which so many were refused: none or one
abbrev pub DoesStep :
    {S E : Type 0} → SendGhosts S E → EndGhosts E → EngineState S → EngineState S → RunStep → ℕ
    → Type 0
DoesStep send ring before after step n =
    (start : WriterState) (openings : ℕ → Opening) (steps : List RunStep) (refused : ℕ)
    → length before.samplers * length steps < MAX_TAKEN
    → HasDone send ring before start openings steps refused
    → HasDone send ring after start openings (steps ++ step ∷ []) (refused + n)
