-- What the steps of a run ask of the event channels.
use Rattle.std.specs.Prelude.{ℕ, cond, List, [], ◌∷◌, flat_map, nat_eq}
use Rattle.sampler.specs.History.{Event, Start, Stop, Trigger}
use Rattle.run_file.specs.Steps.{StepData, pump, start, stop, trigger}

-- a step asks something of the sampler of an event channel, which is an event of its history if it
-- is accepted; or it pumps all rings
pub data RunStep : Type 0 where
  Ask : (channel : ℕ) → (event : Event) → RunStep
  Pump : RunStep

-- what a step of a run file is
abbrev pub run_step : StepData → RunStep
run_step (trigger c stamp image) = Ask c (Trigger image stamp)
run_step (start c l) = Ask c (Start l)
run_step (stop c l) = Ask c (Stop l)
run_step pump = Pump

-- what a step asks of channel c
abbrev pub asked_at : ℕ → RunStep → List Event
asked_at c (Ask k event) = cond (nat_eq c k) (event ∷ []) []
asked_at c Pump = []

-- what some steps ask of channel c, in order
abbrev pub asked_of : ℕ → List RunStep → List Event
asked_of c steps = flat_map (asked_at c) steps
