-- What becomes of what is asked of an event channel.
use Rattle.std.specs.Prelude.{◌≡◌, ℕ, ◌⊎◌, List, filter_map, length, map, slice_get, take}
use Rattle.std.specs.Prelude.{Option, None, Some}
use Rattle.std.specs.Option.{option_map}
use Rattle.xcp_base.specs.declared.item.Item.{Item}
use Rattle.sampler.specs.History.{Event, Start, Stop, Trigger, due}
use Rattle.sampler.specs.Items.{items, marker_of}
use Rattle.sampler.specs.Past.{Past}
use Rattle.sampler.specs.Refusals.{running_at, start_refusal, stop_refusal, trigger_refusal}
use Rattle.sampler.specs.Standing.{ExceedsCapacity}
use Rattle.sampler.specs.declared.faults.StopFault.TheVariants.{NoRoom}
use Rattle.daq_run.specs.declared.cause.Cause.{Cause}
use Rattle.daq_run.specs.declared.cause.Cause.TheVariants.{Start as OfStart, Stop as OfStop}
use Rattle.daq_run.specs.declared.cause.Cause.TheVariants.{Trigger as OfTrigger}

-- what the sampler of a channel goes by: the length of the images, its ring's capacity, and what an
-- item costs there
pub record Setting : Type 0 where
  pub image_len : ℕ
  pub capacity : ℕ
  pub cost : Item → ℕ

-- why what is asked of a channel with this past is refused, lack of room aside
abbrev pub event_refusal : ℕ → Past → Event → Option Cause
event_refusal image_len past (Trigger image stamp) =
    option_map OfTrigger (trigger_refusal image_len past image)
event_refusal image_len past (Start l) = option_map OfStart (start_refusal (running_at past l))
event_refusal image_len past (Stop l) = option_map OfStop (stop_refusal (running_at past l))

-- it is a stop whose marker, with all that the channel sent before it, exceeds the capacity
abbrev pub ExceedsRoom : Setting → Past → Event → Type 0
ExceedsRoom s past (Trigger image stamp) = ⊥
ExceedsRoom s past (Start l) = ⊥
ExceedsRoom s past (Stop l) =
    ExceedsCapacity s.capacity s.cost (items past.opening past.history past.decisions)
    (marker_of past.opening.channel l)

-- what is asked of a channel with this past is answered so: it is accepted if nothing speaks
-- against it, or it is refused for its cause; or it is a stop that finds no room
abbrev pub IsAnswer : Setting → Past → Event → Option Cause → Type 0
IsAnswer s past e None = event_refusal s.image_len past e ≡ None
IsAnswer s past e (Some cause) =
    (event_refusal s.image_len past e ≡ Some cause)
    ⊎ ((event_refusal s.image_len past e ≡ None) × (cause ≡ OfStop NoRoom) × ExceedsRoom s past e)

-- what was asked, with its answer
abbrev pub Answered : Type 0
Answered = Event × Option Cause

-- the event, if it was accepted
abbrev pub accepted_event : Answered → Option Event
accepted_event (e, None) = Some e
accepted_event (e, Some cause) = None

-- those that were accepted, in order
abbrev pub accepted : List Answered → List Event
accepted told = filter_map accepted_event told

-- what the channel had behind it when this was its history, with the decisions of that time
abbrev pub until : Past → List Event → Past
until past h = record past {
  history = h;
  decisions = take (length (due past.opening h)) past.decisions;
}

-- what was asked of a channel, and its answers, came to this past: what was accepted is its
-- history, and each answer is that of what the channel had behind it then
pub record AreAnswered (s : Setting) (asked : List Event) (told : List Answered) (past : Past)
    : Type 0 where
  pub asks : map (λ (a : Answered). a.0) told ≡ asked
  pub history : past.history ≡ accepted told
  pub each :
      (i : ℕ) (e : Event) (answer : Option Cause) → slice_get told i ≡ Some (e, answer)
      → IsAnswer s (until past (accepted (take i told))) e answer
