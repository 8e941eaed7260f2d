-- The way on which what is left of a value goes back to where the value went from.
use Rattle.std.specs.Prelude.{◌≡◌, List, [], ◌∷◌}
use Rattle.hand_over.specs.declared.returns.Return.{Return}
use Rattle.hand_over.specs.declared.returns.Return.TheVariants.{Left, Went}

-- what is known where something was given back: the value that went, and what is left of it
pub record GivenState (T L : Type 0) : Type 0 where
  pub went : T
  pub left : L

module _ {T L : Type 0} where
  -- the value itself goes first; then what is left of it, by the rule. Nothing follows
  abbrev pub Follows : (T → L → Type 0) → List (Return T L) → Return T L → Type 0
  Follows leaves [] (Went value) = Unit {0}
  Follows leaves (Went value ∷ []) (Left left) = leaves value left
  Follows leaves _ _ = ⊥

  -- this value went, and what is left of it didn't yet
  abbrev pub HasOnlyGone : T → List (Return T L) → Type 0
  HasOnlyGone value (Went went ∷ []) = went ≡ value
  HasOnlyGone value _ = ⊥

  -- this value went, and perhaps what is left of it
  abbrev pub HasGone : T → List (Return T L) → Type 0
  HasGone value (Went went ∷ _) = went ≡ value
  HasGone value _ = ⊥

  -- this value went, and then what is left of it
  abbrev pub HasGiven : GivenState T L → List (Return T L) → Type 0
  HasGiven given (Went went ∷ Left left ∷ []) = (went ≡ given.went) × (left ≡ given.left)
  HasGiven given _ = ⊥
