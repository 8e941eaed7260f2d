-- What becomes of what is asked of one sampler, in whichever thread.
use Rattle.std.specs.Prelude.{◌≡◌, ℕ, ◌+◌, ◌++◌, Bool, List, count_by}
use Rattle.std.specs.Prelude.{Option, None, Some}
use Rattle.std.specs.Option.{is_some}
use Rattle.segments.specs.Image.{image_len}
use Rattle.channel_ring.specs.declared.ends.SendEnd.{Ghosts as SendGhosts}
use Rattle.channel_ring.specs.declared.ends.RingEnd.{Ghosts as EndGhosts}
use Rattle.sampler.specs.History.{Event, Opening}
use Rattle.sampler.specs.Past.{Past, one_more}
use Rattle.sampler.specs.Standing.{StandsAfter}
use Rattle.sampler.specs.State.{SamplerState}
use Rattle.daq_run.specs.declared.cause.Cause.{Cause}
use Rattle.daq_run.specs.Answers.{Answered, AreAnswered, IsAnswer, Setting}
use Rattle.daq_run.specs.Steps.{Ask, Pump, RunStep}

-- what a sampler goes by
abbrev pub setting_of_sampler : {S E : Type 0} → SendGhosts S E → EndGhosts E → SamplerState S
    → Setting
setting_of_sampler send ring s = record {
  image_len = image_len s.segments;
  capacity = send.capacity s.end;
  cost = ring.cost;
}

-- what a sampler stands after when it was asked for this, and answered so
abbrev pub past_after_answer : Event → List Bool → Option Cause → Past → Past
past_after_answer e ds None past = one_more past e ds
past_after_answer e ds (Some cause) past = past

-- a sampler was asked for this and answered so
abbrev pub Answers :
    {S E : Type 0} → SendGhosts S E → EndGhosts E → SamplerState S → SamplerState S → Event
    → Option Cause → Type 0
Answers send ring before after e answer =
    (past : Past) → StandsAfter send ring before past
    → IsAnswer (setting_of_sampler send ring before) past e answer
    × ((ds : List Bool) × StandsAfter send ring after (past_after_answer e ds answer past))

-- it was asked for what a step asks, of whichever channel that is; a pump step asks nothing
abbrev pub AnswersStep :
    {S E : Type 0} → SendGhosts S E → EndGhosts E → SamplerState S → SamplerState S → RunStep
    → Option Cause → Type 0
AnswersStep send ring before after (Ask c e) answer = Answers send ring before after e answer
AnswersStep send ring before after Pump answer = (after ≡ before) × (answer ≡ None)

-- it was refused
abbrev pub was_refused : Answered → Bool
was_refused told = is_some told.1

-- since its opening a sampler was asked for these, of which so many were refused
pub record HasAnswered {S E : Type 0} (send : SendGhosts S E) (ring : EndGhosts E)
    (s : SamplerState S) (opening : Opening) (asked : List Event) (refused : ℕ)
    : Type 0 where
  -- fixed by `opened` and `answered`: what was asked, as far as it was accepted
  pub past : Past
  pub opened : past.opening ≡ opening
  -- the answers, one to each that was asked: fixed by `answered`
  pub told : List Answered
  pub answered : AreAnswered (setting_of_sampler send ring s) asked told past
  pub counted : refused ≡ count_by was_refused told
  pub stands : StandsAfter send ring s past

-- a sampler was asked for these more, of which so many were refused
abbrev pub HasAnsweredMore :
    {S E : Type 0} → SendGhosts S E → EndGhosts E → SamplerState S → SamplerState S → List Event
    → ℕ → Type 0
HasAnsweredMore send ring before after es n =
    (opening : Opening) (asked : List Event) (refused : ℕ)
    → HasAnswered send ring before opening asked refused
    → HasAnswered send ring after opening (asked ++ es) (refused + n)
