-- The steps of a run, place by place.
use Rattle.std.proofs.Common.{◌≡◌, ℕ, zero, suc, ◌+◌, ◌*◌, ◌<◌, ◌≤◌, List, [], ◌∷◌, ◌++◌, length, map, take, refl, sym, ap, subst, ◌∙◌, arith}
use Rattle.std.specs.Prelude.{None, Some, slice_get}
use Rattle.std.proofs.lemmas.Option.{get_or_from_slice_get, same_Some, slice_get_within}
use Rattle.std.proofs.lemmas.List.{length-map, length-take-le, map-append}
use Rattle.std.proofs.lemmas.List.Elements.{All-get_or}
use Rattle.std.proofs.Math.Nat.{mul-le-mul_left, mul-le-mul_right}
use Rattle.xcp_base.specs.declared.limits.TheConstants.{MAX_TAKEN}
use Rattle.run_file.specs.Limits.{HasLimits, IsStepWithin}
use Rattle.run_file.specs.RunFile.{RunData}
use Rattle.run_file.specs.Steps.{StepData, pump, start, stop, trigger}
use Rattle.daq_run.specs.StepRuns.{IsStepOf}
use Rattle.daq_run.specs.Steps.{run_step}

-- one element more
take_one_more : {X : Type 0} (xs : List X) (i : ℕ) (x : X) → slice_get xs i ≡ Some x → take (i + 1) xs ≡ take i xs ++ x ∷ []
take_one_more [] i x at = absurd cc
take_one_more (y ∷ ys) zero x at = ap (λ z. z ∷ []) (same_Some y x at)
take_one_more (y ∷ ys) (suc i) x at =
    let same : suc i + 1 ≡ suc (i + 1) = omega arith in
    rw same (ap (λ zs. y ∷ zs) (take_one_more ys i x at))

take_whole : {X : Type 0} (k : ℕ) (xs : List X) → length xs ≤ k → take k xs ≡ xs
take_whole zero [] h = refl
take_whole zero (x ∷ xs) h = absurd (omega (arith, h))
take_whole (suc k) [] h = refl
take_whole (suc k) (x ∷ xs) h = ap (λ ys. x ∷ ys) (take_whole k xs (omega (arith, h)))

pub steps-more : (steps : List StepData) (i : ℕ) (step : StepData) → slice_get steps i ≡ Some step → map run_step (take (i + 1) steps) ≡ map run_step (take i steps) ++ run_step step ∷ []
steps-more steps i step at = ap (map run_step) (take_one_more steps i step at) ∙ map-append run_step (take i steps) (step ∷ [])

-- a step within the limits of a run is of one of its channels
of_channels : (n : ℕ) (step : StepData) → IsStepWithin n step → IsStepOf n (run_step step)
of_channels n (trigger c stamp image) h = h.0
of_channels n (start c l) h = h.0
of_channels n (stop c l) h = h.0
of_channels n pump h = tt

module _ (run : RunData) (limits : HasLimits run) where
  pub step_of_channel : (n i : ℕ) (step : StepData) → n ≡ run.channels → slice_get run.steps i ≡ Some step → IsStepOf n (run_step step)
  step_of_channel n i step many at =
      let within = slice_get_within run.steps i step at in
      let here = subst (IsStepWithin run.channels) (get_or_from_slice_get run.steps i step step at) (All-get_or (IsStepWithin run.channels) run.steps i step within limits.each_step) in
      subst (λ k. IsStepOf k (run_step step)) (sym many) (of_channels run.channels step here)

  -- so few are the items that the pumps of a run take
  pub few_items : (n i : ℕ) → n ≡ run.channels → i ≤ length run.steps → n * length (map run_step (take i run.steps)) < MAX_TAKEN
  few_items n i many within =
      let many_steps : length (map run_step (take i run.steps)) ≡ i = length-map (take i run.steps) run_step ∙ length-take-le i run.steps within in
      let rows = mul-le-mul_right i (limits.channels) in
      let columns = mul-le-mul_left 8 within in
      let few = limits.steps in
      subst (λ k. n * k < MAX_TAKEN) (sym many_steps) (subst (λ k. k * i < MAX_TAKEN) (sym many) (omega (arith, rows, columns, few)))

-- there is a step at each place
pub none_within : {X : Type 0} (xs : List X) (i : ℕ) → slice_get xs i ≡ None → i < length xs → ⊥
none_within [] i none h = omega (arith, h)
none_within (x ∷ xs) zero none h = cc
none_within (x ∷ xs) (suc i) none h = none_within xs i none (omega (arith, h))

-- all of them
pub whole_steps : (steps : List StepData) (i : ℕ) → length steps ≤ i → map run_step (take i steps) ≡ map run_step steps
whole_steps steps i h = ap (map run_step) (take_whole i steps h)
