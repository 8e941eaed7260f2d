-- Values read from their texts, one after another, up to the first text that has none.
use Rattle.std.specs.Prelude.{◌≡◌, ℕ, List, [], ◌∷◌, ◌++◌, length, ⊤}

-- each text is that of the value beside it, and none is over
abbrev pub AreTextsOf : {X : Type 0} → (List ℕ → X → Type 0) → List (List ℕ) → List X → Type 0
AreTextsOf R [] [] = ⊤
AreTextsOf R (text ∷ texts) (x ∷ xs) = R text x × AreTextsOf R texts xs
AreTextsOf R [] (x ∷ xs) = ⊥
AreTextsOf R (text ∷ texts) [] = ⊥

-- there is no such value
abbrev pub HasNone : {X : Type 0} → (X → Type 0) → Type 0
HasNone {X} P = (x : X) → ¬ (P x)

-- the text at this place is the first that is the text of no value
pub record IsFirstBad {X : Type 0} (R : List ℕ → X → Type 0) (texts : List (List ℕ)) (place : ℕ)
    : Type 0 where
  pub before : List (List ℕ)
  pub bad : List ℕ
  pub behind : List (List ℕ)
  pub split : texts ≡ before ++ bad ∷ behind
  pub at : length before ≡ place
  pub good : List X
  pub read : AreTextsOf R before good
  pub none : HasNone (R bad)
