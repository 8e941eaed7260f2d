-- What no public clause cites: steps in words and steps as a run keeps them, all images one behind
-- another; and the values of the keys as the program holds them.
use Rattle.std.specs.Prelude.{◌≡◌, ◌≤◌, ◌++◌, ℕ, List, [], ◌∷◌, length, map, slice_range, take}
use Rattle.std.specs.Prelude.{Option, None, Some, vec_items, ⊤}
use Rattle.toml.specs.Data.{as_str}
use Rattle.toml.specs.View.{view}
use Rattle.toml.specs.declared.value.Value.{Value}
use Rattle.run_file.specs.declared.kept.Action.{Action}
use Rattle.run_file.specs.declared.kept.Action.TheVariants as kept
use Rattle.run_file.specs.declared.kept.Kept.{Kept}
use Rattle.run_file.specs.declared.values.Values.{Values}
use Rattle.run_file.specs.declared.wording.Wording.{Wording}
use Rattle.run_file.specs.declared.wording.Wording.TheVariants as said
use Rattle.run_file.specs.Keys.{KeyValues}
use Rattle.run_file.specs.Steps.{StepData, trigger, start, stop, pump}

-- the text, or the empty one where there is none
abbrev pub or_empty : Option (List ℕ) → List ℕ
or_empty (Some text) = text
or_empty None = []

abbrev pub text_in : Value → List ℕ
text_in v = or_empty (as_str (view v))

-- the values of the keys
abbrev pub values_data : Values → KeyValues
values_data v = record {
  channels = v.channels;
  image_len = v.image_len;
  form = v.form;
  ring = v.ring;
  caps = vec_items v.caps;
  setup = map text_in v.setup.now;
  steps = map text_in v.steps.now;
  drain = v.drain;
}

-- what a step in words does, with the word of an image in place of the image
abbrev pub wording_data : Wording → StepData
wording_data (said.Trigger c s digits) = trigger c s digits.now
wording_data (said.Start c l) = start c l
wording_data (said.Stop c l) = stop c l
wording_data said.Pump = pump

-- what a step does with this image
abbrev pub step_with : Action → List ℕ → StepData
step_with (kept.Trigger c s) image = trigger c s image
step_with (kept.Start c l) image = start c l
step_with (kept.Stop c l) image = stop c l
step_with kept.Pump image = pump

-- where the image before those of these steps ends: where theirs begin, or behind all n bytes
abbrev pub next_from : ℕ → List Kept → ℕ
next_from n [] = n
next_from n (k ∷ ks) = k.from

-- what the steps do that are kept beside these images
abbrev pub kept_data : List ℕ → List Kept → List StepData
kept_data images [] = []
kept_data images (k ∷ ks) =
    step_with k.action (slice_range images k.from (next_from (length images) ks))
    ∷ kept_data images ks

-- each image begins where the one before it ends, and all end within so many bytes
abbrev pub AreInOrder : ℕ → List Kept → Type 0
AreInOrder n [] = ⊤
AreInOrder n (k ∷ ks) = (k.from ≤ next_from n ks) × (next_from n ks ≤ n) × AreInOrder n ks

-- the images stand in front of these
abbrev pub BeginsWith : List ℕ → List ℕ → Type 0
BeginsWith images more = take (length images) more ≡ images

-- behind the images stands one more
pub record GainsImage (read : Option (List ℕ)) (images more : List ℕ) : Type 0 where
  pub image : List ℕ
  pub is : read ≡ Some image
  pub at_end : more ≡ images ++ image

-- what was read is this action, with the image that came behind the others
pub record GainsAction (read : Option StepData) (images more : List ℕ) (action : Action)
    : Type 0 where
  pub image : List ℕ
  pub is : read ≡ Some (step_with action image)
  pub at_end : more ≡ images ++ image

-- one such value came behind the others
pub record Gains {X : Type 0} (P : X → Type 0) (old new : List X) : Type 0 where
  pub value : X
  pub is : P value
  pub at_end : new ≡ old ++ value ∷ []
