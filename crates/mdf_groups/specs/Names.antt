-- The names of the channels of a group, which differ (own).
use Rattle.std.specs.Prelude.{◌≡◌, ◌≢◌, ℕ, ◌<◌, Bool, false, ◌||◌, MatchBool}
use Rattle.std.specs.Prelude.{List, [], ◌∷◌, ◌++◌, length, take, slice_index_or, bytes_eq, String}
use Rattle.std.specs.Prelude.{is_some}
use Rattle.std.specs.List.{AllPairs, list_any}
use Rattle.std.specs.Fmt.{decimal}
use Rattle.std.specs.BTreeMap.{BTreeMap, get_by_text}

-- a name with _ and a number behind it
abbrev pub with_number : List ℕ → ℕ → List ℕ
with_number wanted n = wanted ++ 95 ∷ decimal n

-- a name that isn't taken, with a number
abbrev pub IsFresh : (List ℕ → Bool) → List ℕ → List ℕ → Type 0
IsFresh taken wanted name =
    (taken name ≡ false) × ((n : ℕ) × (name ≡ with_number wanted n))

-- the name that a wanted one gets where some are taken: itself, unless it is among them
abbrev pub IsNameFor : (List ℕ → Bool) → List ℕ → List ℕ → Type 0
IsNameFor taken wanted name =
    MatchBool (taken wanted) (IsFresh taken wanted name) (name ≡ wanted)

abbrev pub is_among : List (List ℕ) → List ℕ → Bool
is_among names name = list_any (bytes_eq name) names

-- names for wanted ones, in their order: no two are the same, and each is the wanted one, or that
-- with a number if an earlier one is the same
pub record AreNames (wanted names : List (List ℕ)) : Type 0 where
  pub count : length names ≡ length wanted
  pub differ : AllPairs (λ a b. a ≢ b) names
  pub each : (i : ℕ) → i < length wanted
      → IsNameFor (is_among (take i names)) (slice_index_or wanted i []) (slice_index_or names i [])

module _ {A : Type 0} where
  -- a map has a name
  abbrev pub is_taken : BTreeMap (String A) ℕ → List ℕ → Bool
  is_taken m name = is_some (get_by_text m name)

  -- it has this name too, and no other more
  abbrev pub Takes : BTreeMap (String A) ℕ → BTreeMap (String A) ℕ → List ℕ → Type 0
  Takes old new name =
      (other : List ℕ) → is_taken new other ≡ (is_taken old other || bytes_eq other name)
