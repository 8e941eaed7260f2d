-- The samples of a DAQ list that its event channel accepted, as a reader gives them back.
use Rattle.std.specs.Prelude.{◌≡◌, ℕ, ◌+◌, ◌==◌, ◌&&◌, Bool, cond, List, [], ◌∷◌, ◌++◌, length}
use Rattle.std.specs.Prelude.{Option, Some, None, slice_get}
use Rattle.segments.specs.Image.{image_len}
use Rattle.copy_plan.specs.Config.{ListPlan}
use Rattle.sampler.specs.Decisions.{Decided, overload_bit}
use Rattle.sampler.specs.History.{Event, Start, Stop, Trigger}
use Rattle.sampler.specs.Past.{Past}
use Rattle.daq_engine.specs.Overload.{decided_of}
use Rattle.daq_reader.specs.Laws.{sample_of}
use Rattle.daq_reader.specs.Recorded.{Recorded}

-- the sample of a list that a trigger's image and timestamp make, with this overload indication;
-- no other event makes one
abbrev pub made_at : ListPlan → Option Event → Bool → List Recorded
made_at plan None overload = []
made_at plan (Some (Trigger image stamp)) overload = sample_of plan image stamp overload ∷ []
made_at plan (Some (Start l)) overload = []
made_at plan (Some (Stop l)) overload = []

-- the sample of the due pair of number j: of the trigger at its place, with its overload bit
abbrev pub recorded_at : Past → ListPlan → ℕ → ℕ → List Recorded
recorded_at past plan j place =
    made_at plan (slice_get past.history place)
    (overload_bit past.opening past.history past.decisions j)

-- the samples of a list that were accepted of these due pairs, of which the first has number j
abbrev pub recorded_from : Past → ListPlan → ℕ → List Decided → List Recorded
recorded_from past plan j [] = []
recorded_from past plan j (pair ∷ pairs) =
    cond (pair.1 && pair.0.1 == plan.list) (recorded_at past plan j pair.0.0) []
    ++ recorded_from past plan (j + 1) pairs

-- the samples of a list that its channel accepted, in order
abbrev pub recorded_of : Past → ListPlan → List Recorded
recorded_of past plan = recorded_from past plan 0 (decided_of past)

-- each image of a channel's triggers is as long as the plans of its lists say
abbrev pub HasImages : Past → Type 0
HasImages past =
    (place i stamp : ℕ) (image : List ℕ) (plan : ListPlan)
    → slice_get past.history place ≡ Some (Trigger image stamp)
    → slice_get past.opening.plans i ≡ Some plan → length image ≡ image_len plan.segments
