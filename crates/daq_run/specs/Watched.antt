-- What a watch (`Watch`) is told of the steps of a run. `notes a came b` says that it went from a
-- to b as it was told of `came`.
use Rattle.std.specs.Prelude.{◌≡◌, ℕ, Bool, true, false, cond, List, [], ◌∷◌, count_by, length}
use Rattle.std.specs.Prelude.{Option, None, Some}
use Rattle.daq_run.specs.declared.came.Came.{Came}
use Rattle.daq_run.specs.declared.came.Came.TheVariants.{Refused}
use Rattle.daq_run.specs.declared.cause.Cause.{Cause}

-- why a step was refused, if it was
abbrev pub cause_of : Came → Option Cause
cause_of (Refused cause) = Some cause
cause_of _ = None

-- whether it was refused
abbrev pub is_refusal : Came → Bool
is_refusal (Refused cause) = true
is_refusal _ = false

-- how many were refused: one or none
abbrev pub refusals : Came → ℕ
refusals came = cond (is_refusal came) 1 0

-- told of these one after another, and of nothing else, a watch went from `before` to `after`
abbrev pub IsTold : {W : Type 0} → (W → Came → W → Type 0) → W → W → List Came → Type 0
IsTold notes before after [] = before ≡ after
IsTold notes before after (came ∷ cames) =
    (next : _) × notes before came next × IsTold notes next after cames

-- a watch was told what came of a step, `steps` times, and `refused` of these were refusals
pub record TellsSteps {W : Type 0} (notes : W → Came → W → Type 0) (before after : W)
    (steps refused : ℕ)
    : Type 0 where
  -- any: so many, of which so many are refusals; of `do_watched`, `TellsCames` says what they are
  pub cames : List Came
  pub told : IsTold notes before after cames
  pub each : length cames ≡ steps
  pub counted : refused ≡ count_by is_refusal cames
