-- What a picture keeps of the values that it was given.
use Rattle.std.specs.Prelude.{◌≡◌, ℕ, ◌-◌, ◌^◌, ◌<◌, ◌≤◌, min, Bool, ◌&&◌}
use Rattle.std.specs.Prelude.{List, [], length, slice_get, get_or, filter, All}
use Rattle.std.specs.Prelude.{MatchOption, Option, Some}
use Rattle.std.specs.List.{Any, list_any}
use Rattle.std.specs.Float.{◌≤ᶠ◌, float_is_finite}
use Rattle.sample_picture.specs.Gathered.{has_slot}
use Rattle.sample_picture.specs.Scale.{IsFine, IsNear}
use Rattle.curve_picture.specs.declared.bin.Bin.{Bin}
use Rattle.curve_picture.specs.declared.point.Point.{Point}
use Rattle.curve_picture.specs.declared.row.Row.{Row}
use Rattle.curve_picture.specs.declared.stretch.Stretch.{Stretch}
use Rattle.curve_picture.specs.Inner.{empty_bin}
use Rattle.curve_picture.specs.Shown.{Gathered}
use Rattle.curve_picture.specs.Values.{AreReal, Given, Seen}
use Rattle.curve_picture.specs.Values.{all_seen, first_place, last_place, seen_of}

-- the values that are drawn of those whose place is chosen: neither NaN nor infinite
abbrev pub is_drawn : (ℕ → Bool) → Seen → Bool
is_drawn chosen s = chosen s.at && float_is_finite s.value

abbrev pub drawn : (ℕ → Bool) → List Seen → List Seen
drawn chosen seen = filter (is_drawn chosen) seen

-- all values that are drawn
abbrev pub finite : List Seen → List Seen
finite seen = filter (λ s. float_is_finite s.value) seen

-- the place and the value are those of the point
abbrev pub IsPoint : Point → Seen → Type 0
IsPoint p s = (s.at ≡ p.at) × (s.value ≡ p.value)

-- of these values: one is the least, and none is below it; one is the greatest, and none is above
-- it; one is at the first place, and none is before it; one is at the last place, and none is
-- behind it
pub record IsStretchOf (b : Stretch) (seen : List Seen) : Type 0 where
  pub least : Any (λ s. s.value ≡ b.least) seen
  pub none_below : All (λ s. b.least ≤ᶠ s.value) seen
  pub greatest : Any (λ s. s.value ≡ b.greatest) seen
  pub none_above : All (λ s. s.value ≤ᶠ b.greatest) seen
  pub first : Any (IsPoint b.first) seen
  pub none_before : All (λ s. b.first.at ≤ s.at) seen
  pub last : Any (IsPoint b.last) seen
  pub none_behind : All (λ s. s.at ≤ b.last.at) seen

-- what is kept of some values, if there are any
abbrev pub IsKept : Option Stretch → List Seen → Type 0
IsKept kept seen = MatchOption kept (seen ≡ []) (λ b. IsStretchOf b seen)

-- of the values whose place is chosen, a bin keeps those that are drawn, if there are any; and
-- whether samples were dropped before one of them
pub record IsBinOf (bin : Bin) (chosen : ℕ → Bool) (seen : List Seen) : Type 0 where
  pub curve : IsKept bin.curve (drawn chosen seen)
  pub lost : bin.lost ≡ list_any (λ s. chosen s.at && s.lost) seen

-- a row has gathered these values: their number stops at the greatest one, and each slot has the
-- bin of the values whose bin it is
pub record IsRowOf (width : ℕ) (row : Row) (seen : List Seen) : Type 0 where
  pub values : row.values ≡ min (length seen) (2 ^ 64 - 1)
  pub first : row.first ≡ first_place seen
  pub last : row.last ≡ last_place seen
  pub slots : length row.bins ≡ 1024
  pub bins :
      (slot : ℕ) → slot < 1024 → IsBinOf (get_or row.bins slot empty_bin) (has_slot width slot) seen

-- each row has gathered its values
abbrev pub AreRowsOf : ℕ → List Row → List Given → Type 0
AreRowsOf width rows given =
    (k : ℕ) → (row : Row) → slice_get rows k ≡ Some row → IsRowOf width row (seen_of k given)

-- a picture has gathered these values: each is of one of its rows; their bins are fewer than 1024
-- apart, so that no two bins with values have one slot; and bins are as fine as that leaves
pub record IsCurveOf (p : Gathered) (given : List Given) : Type 0 where
  pub named : length p.names ≡ length p.rows
  pub real : AreReal (length p.rows) given
  pub first : p.first ≡ first_place (all_seen given)
  pub last : p.last ≡ last_place (all_seen given)
  pub positive : 0 < p.width
  pub near : IsNear p.width p.first p.last
  pub fine : IsFine p.width p.first p.last
  pub rows : AreRowsOf p.width p.rows given
