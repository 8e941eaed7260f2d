-- Dimensions from which those of 1 at the end are taken.
use Rattle.std.proofs.Common.{◌≡◌, ◌≢◌, ℕ, List, [], ◌∷◌, ◌++◌, refl, ap, ◌∙◌}
use Rattle.std.proofs.lemmas.Bool.{ne_eqb}
use Rattle.a2l_entries.specs.Dimensions.{before_others, trimmed}

-- a dimension of 1 at the end doesn't count
pub trimmed-one : (ds : List ℕ) → trimmed (ds ++ 1 ∷ []) ≡ trimmed ds
trimmed-one [] = refl
trimmed-one (d ∷ ds) = ap (before_others d) (trimmed-one ds)

before_some : (d : ℕ) (ds : List ℕ) (k : ℕ)
    → before_others d (ds ++ k ∷ []) ≡ d ∷ (ds ++ k ∷ [])
before_some d [] k = refl
before_some d (e ∷ ds) k = refl

-- any other one does, and all before it
pub trimmed-other : (ds : List ℕ) (k : ℕ) → k ≢ 1 → trimmed (ds ++ k ∷ []) ≡ ds ++ k ∷ []
trimmed-other [] k h = rw (ne_eqb k 1 h) refl
trimmed-other (d ∷ ds) k h = ap (before_others d) (trimmed-other ds k h) ∙ before_some d ds k
