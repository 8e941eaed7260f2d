-- What follows under one outcome.
use Rattle.std.proofs.Common.{◌≡◌, List, ℕ, ◌++◌, Result, Ok, Err, OnErr, OnOk, is_ok, cond}
use Rattle.measured_values.specs.Texts.{GrowsBy}

pub then_ok : {T E : Type 0} (r : Result T E) (P Q : Type 0) → (P → Q) → OnOk r P → OnOk r Q
then_ok (Ok x) P Q f p = f p
then_ok (Err e) P Q f p = tt

pub on_err : {T E : Type 0} (r : Result T E) (P : Type 0) → P → OnErr r P
on_err (Ok x) P p = tt
on_err (Err e) P p = p

-- a text that was pushed, of a kind
pub GrowsBy-pushed : {T E : Type 0} (r : Result T E) (Is : List ℕ → Type 0)
    (before after text : List ℕ) → after ≡ cond (is_ok r) (before ++ text) before → Is text
    → OnOk r (GrowsBy Is before after)
GrowsBy-pushed (Ok x) Is before after text after_is is = (text, after_is, is)
GrowsBy-pushed (Err e) Is before after text after_is is = tt

pub GrowsBy-by : {T E : Type 0} (r : Result T E) (Is : List ℕ → Type 0)
    (before after text : List ℕ) → OnOk r (after ≡ before ++ text) → Is text
    → OnOk r (GrowsBy Is before after)
GrowsBy-by (Ok x) Is before after text after_is is = (text, after_is, is)
GrowsBy-by (Err e) Is before after text after_is is = tt
