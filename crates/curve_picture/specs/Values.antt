-- What a picture is given: the newest value comes first in each list.
use Rattle.std.specs.Prelude.{ℕ, ◌-◌, ◌^◌, ◌<◌, ◌≤◌, min, max, Bool, ⊤}
use Rattle.std.specs.Prelude.{List, [], ◌∷◌, nat_eq, if◌then◌else◌}
use Rattle.std.specs.Float.{Float}

-- a value of a row: its place on the axis, and whether samples were dropped before it
pub record Seen : Type 0 where
  pub at : ℕ
  pub value : Float
  pub lost : Bool

-- a value, with the number of its row
pub record Given : Type 0 where
  pub row : ℕ
  pub seen : Seen

abbrev pub given_at : ℕ → ℕ → Float → Bool → Given
given_at number place amount mark = record {
  row = number;
  seen = record { at = place; value = amount; lost = mark };
}

-- the values of one row
abbrev pub seen_of : ℕ → List Given → List Seen
seen_of row [] = []
seen_of row (g ∷ given) =
    if nat_eq g.row row then g.seen ∷ seen_of row given else seen_of row given

-- the values of all rows
abbrev pub all_seen : List Given → List Seen
all_seen [] = []
all_seen (g ∷ given) = g.seen ∷ all_seen given

-- the first and the last place; where there is none, the greatest number and 0
abbrev pub first_place : List Seen → ℕ
first_place [] = 2 ^ 64 - 1
first_place (s ∷ seen) = min s.at (first_place seen)

abbrev pub last_place : List Seen → ℕ
last_place [] = 0
last_place (s ∷ seen) = max s.at (last_place seen)

-- each value is of one of so many rows
abbrev pub AreReal : ℕ → List Given → Type 0
AreReal count [] = ⊤
AreReal count (g ∷ given) = (g.row < count) × AreReal count given

-- no value lies beyond these places
abbrev pub AreWithin : ℕ → ℕ → List Given → Type 0
AreWithin low high [] = ⊤
AreWithin low high (g ∷ given) =
    (low ≤ g.seen.at) × (g.seen.at ≤ high) × AreWithin low high given
