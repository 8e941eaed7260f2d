-- The places of names in a list.
use Rattle.std.specs.Prelude.{◌≡◌, ℕ, ◌+◌, List, [], ◌∷◌, bytes_eq, Option, Some, None}
use Rattle.std.specs.Prelude.{if◌then◌else◌, String}
use Rattle.std.specs.Option.{option_or}
use Rattle.std.specs.BTreeMap.{BTreeMap, get_by_text}

-- the place of the first of these names that is the name, where the first of them has this place
abbrev pub place_from : ℕ → List ℕ → List (List ℕ) → Option ℕ
place_from k name [] = None
place_from k name (n ∷ ns) = if bytes_eq name n then Some k else place_from (k + 1) name ns

abbrev pub place_of : List ℕ → List (List ℕ) → Option ℕ
place_of name names = place_from 0 name names

module _ {A : Type 0} where
  -- what the map has at a name is its place
  abbrev pub ArePlaces : List (List ℕ) → BTreeMap (String A) ℕ → Type 0
  ArePlaces names places = (name : List ℕ) → get_by_text places name ≡ place_of name names

  -- the name has its place, or the one that it had
  abbrev pub NotesName : BTreeMap (String A) ℕ → BTreeMap (String A) ℕ → List ℕ → ℕ → Type 0
  NotesName old new name place = (other : List ℕ)
      → get_by_text new other
      ≡ option_or (get_by_text old other) (if bytes_eq other name then Some place else None)
