-- Steps that are kept: the images behind theirs change nothing.
use Rattle.std.proofs.Common.{◌≡◌, ◌≤◌, ◌-◌, ◌+◌, ℕ, zero, suc, List, [], ◌∷◌, ◌++◌, length, take, drop, slice_get, slice_range, Option, None, Some, Result, Ok, Err, OnErr, OnOk, refl, sym, ap, ◌∙◌, subst, arith, take_all}
use Rattle.std.proofs.Math.Seq.{drop-append_seam}
use Rattle.std.proofs.lemmas.List.{drop-append-le, length-append, length-drop, take-append-drop, take-append-le}
use Rattle.std.proofs.lemmas.Option.{same_Some}
use Rattle.run_file.specs.declared.kept.Kept.{Kept}
use Rattle.run_file.specs.declared.step_fault.StepFault.{StepFault}
use Rattle.run_file.specs.Inner.{AreInOrder, BeginsWith, GainsAction, kept_data, next_from, step_with}
use Rattle.run_file.specs.Inner.{Gains}
use Rattle.run_file.specs.Steps.{StepData}

slice_range-more : (images more : List ℕ) (from end : ℕ) → from ≤ end → end ≤ length images
    → slice_range (images ++ more) from end ≡ slice_range images from end
slice_range-more images more from end up low =
    ap (take (end - from)) (drop-append-le from images more (omega (arith, up, low)))
    ∙ take-append-le (end - from) (drop from images) more (omega (arith, length-drop from images, up, low))

-- the image behind the others
slice_range-behind : (images image : List ℕ) → slice_range (images ++ image) (length images) (length (images ++ image)) ≡ image
slice_range-behind images image =
    ap (take (length (images ++ image) - length images)) (drop-append_seam images image)
    ∙ take_all (length (images ++ image) - length images) image (omega (arith, length-append images image))

pub length-kept_data : (images : List ℕ) (ks : List Kept) → length (kept_data images ks) ≡ length ks
length-kept_data images [] = refl
length-kept_data images (k ∷ ks) = ap suc (length-kept_data images ks)

-- behind all of n bytes stands nothing; one step more begins there
next_from-push : (m n : ℕ) (ks : List Kept) (k : Kept) → k.from ≡ n → next_from m (ks ++ k ∷ []) ≡ next_from n ks
next_from-push m n [] k at = at
next_from-push m n (x ∷ ks) k at = refl

in_order-push : (n m : ℕ) (ks : List Kept) (k : Kept) → AreInOrder n ks → k.from ≡ n → n ≤ m → AreInOrder m (ks ++ k ∷ [])
in_order-push n m [] k before at low = (omega (arith, at, low), omega arith, tt)
in_order-push n m (x ∷ ks) k before at low =
    let e : next_from m (ks ++ k ∷ []) ≡ next_from n ks = next_from-push m n ks k at in
    (omega (arith, e, before.0), omega (arith, e, before.1, low), in_order-push n m ks k before.2 at low)

next_from-grow : (n m : ℕ) (ks : List Kept) → n ≤ m → next_from n ks ≤ next_from m ks
next_from-grow n m [] low = low
next_from-grow n m (x ∷ ks) low = omega arith

next_from-low : (n m : ℕ) (ks : List Kept) → n ≤ m → next_from n ks ≤ n → next_from m ks ≤ m
next_from-low n m [] low under = omega arith
next_from-low n m (x ∷ ks) low under = omega (arith, low, under)

-- more bytes behind all images change no order
pub in_order-grow : (n m : ℕ) (ks : List Kept) → n ≤ m → AreInOrder n ks → AreInOrder m ks
in_order-grow n m [] low before = tt
in_order-grow n m (x ∷ ks) low before =
    (omega (arith, before.0, next_from-grow n m ks low), next_from-low n m ks low before.1, in_order-grow n m ks low before.2)

kept_data-push : (images image : List ℕ) (ks : List Kept) (k : Kept) → AreInOrder (length images) ks → k.from ≡ length images
    → kept_data (images ++ image) (ks ++ k ∷ []) ≡ kept_data images ks ++ step_with k.action image ∷ []
kept_data-push images image [] k before at =
    ap (λ b. step_with k.action (slice_range (images ++ image) b (length (images ++ image))) ∷ []) at
    ∙ ap (λ i. step_with k.action i ∷ []) (slice_range-behind images image)
kept_data-push images image (x ∷ ks) k before at =
    let e : next_from (length (images ++ image)) (ks ++ k ∷ []) ≡ next_from (length images) ks =
    next_from-push (length (images ++ image)) (length images) ks k at in
    ap (λ b. step_with x.action (slice_range (images ++ image) x.from b) ∷ kept_data (images ++ image) (ks ++ k ∷ [])) e
    ∙ ap (λ i. step_with x.action i ∷ kept_data (images ++ image) (ks ++ k ∷ []))
    (slice_range-more images image x.from (next_from (length images) ks) before.0 before.1)
    ∙ ap (λ ys. step_with x.action (slice_range images x.from (next_from (length images) ks)) ∷ ys)
    (kept_data-push images image ks k before.2 at)

behind : (images more : List ℕ) → BeginsWith images more → images ++ drop (length images) more ≡ more
behind images more front =
    ap (λ l. l ++ drop (length images) more) (sym front) ∙ take-append-drop (length images) more

longer : (images more : List ℕ) → BeginsWith images more → length images ≤ length more
longer images more front =
    subst (λ m. length images ≤ length m) (behind images more front) (omega (arith, length-append images (drop (length images) more)))

-- whatever images came behind, the order stays
pub still_in_order : (images more : List ℕ) (ks : List Kept) → BeginsWith images more → AreInOrder (length images) ks
    → AreInOrder (length more) ks
still_in_order images more ks front before = in_order-grow (length images) (length more) ks (longer images more front) before

module _ (read : Option StepData) (images more : List ℕ) (ks new : List Kept) (k : Kept) (r : Result (Unit {0}) StepFault)
    (at_end : OnOk r (new ≡ ks ++ k ∷ [])) (gains : GainsAction read images more k.action) (at : k.from ≡ length images)
    (before : AreInOrder (length images) ks) where
  -- one step came to the others
  gained : new ≡ ks ++ k ∷ [] → kept_data more new ≡ kept_data images ks ++ step_with k.action gains.image ∷ []
  gained e =
      ap (kept_data more) e ∙ ap (λ m. kept_data m (ks ++ k ∷ [])) gains.at_end
      ∙ kept_data-push images gains.image ks k before at

  pub kept_gains : (old : List StepData) → kept_data images ks ≡ old → OnOk r (Gains (λ s. read ≡ Some s) old (kept_data more new))
  kept_gains old view = by_answer r at_end
    where
      by_answer : (a : Result (Unit {0}) StepFault) → OnOk a (new ≡ ks ++ k ∷ []) → OnOk a (Gains (λ s. read ≡ Some s) old (kept_data more new))
      by_answer (Err e) h = tt
      by_answer (Ok u) h = record {
        value = step_with k.action gains.image;
        is = gains.is;
        at_end = gained h ∙ ap (λ steps. steps ++ step_with k.action gains.image ∷ []) view;
      }

  -- and all are in order, whether it came or not
  pub kept_in_order : OnErr r (new ≡ ks) → AreInOrder (length more) new
  kept_in_order same = by_answer r at_end same
    where
      size : length more ≡ length images + length gains.image
      size = ap length gains.at_end ∙ length-append images gains.image

      by_answer : (a : Result (Unit {0}) StepFault) → OnOk a (new ≡ ks ++ k ∷ []) → OnErr a (new ≡ ks) → AreInOrder (length more) new
      by_answer (Ok u) h same =
          subst (AreInOrder (length more)) (sym h) (in_order-push (length images) (length more) ks k before at (omega (arith, size)))
      by_answer (Err e) h same =
          subst (AreInOrder (length more)) (sym same) (in_order-grow (length images) (length more) ks (omega (arith, size)) before)

-- where the image of a step ends
pub next_from-drop : (n j : ℕ) (ks : List Kept) → slice_get ks j ≡ None → next_from n (drop j ks) ≡ n
next_from-drop n zero [] h = refl
next_from-drop n zero (k ∷ ks) h = cc h
next_from-drop n (suc j) [] h = refl
next_from-drop n (suc j) (k ∷ ks) h = next_from-drop n j ks h

pub next_from-get : (n j : ℕ) (k : Kept) (ks : List Kept) → slice_get ks j ≡ Some k → next_from n (drop j ks) ≡ k.from
next_from-get n zero k [] h = cc h
next_from-get n zero k (x ∷ ks) h = ap (λ (y : Kept). y.from) (same_Some x k h)
next_from-get n (suc j) k [] h = cc h
next_from-get n (suc j) k (x ∷ ks) h = next_from-get n j k ks h

-- the step at a place, with its image
pub record IsStepAt (images : List ℕ) (ks : List Kept) (i : ℕ) (k : Kept) (end : ℕ) : Type 0 where
  pub up : k.from ≤ end
  pub low : end ≤ length images
  pub is : slice_get (kept_data images ks) i ≡ Some (step_with k.action (slice_range images k.from end))

pub step_at : (images : List ℕ) (ks : List Kept) (i : ℕ) (k : Kept) → slice_get ks i ≡ Some k → AreInOrder (length images) ks
    → IsStepAt images ks i k (next_from (length images) (drop (i + 1) ks))
step_at images [] i k h before = cc h
step_at images (x ∷ ks) zero k h before =
    let e : x ≡ k = same_Some x k h in
    subst (λ y. IsStepAt images (x ∷ ks) zero y (next_from (length images) ks)) e (record { up = before.0; low = before.1; is = refl })
step_at images (x ∷ ks) (suc i) k h before =
    let rest = step_at images ks i k h before.2 in
    let e : suc i + 1 ≡ suc (i + 1) = omega arith in
    rw e (record { up = rest.up; low = rest.low; is = rest.is })

pub none_at : (images : List ℕ) (ks : List Kept) (i : ℕ) → slice_get ks i ≡ None → slice_get (kept_data images ks) i ≡ None
none_at images [] i h = refl
none_at images (x ∷ ks) zero h = cc h
none_at images (x ∷ ks) (suc i) h = none_at images ks i h
