-- How a text finds its place among others.
use Rattle.std.specs.Prelude.{◌≡◌, ◌⊎◌, ℕ, ◌≤◌, Bool, ◌&&◌, true, false, List, [], ◌∷◌, Contains}
use Rattle.std.specs.Prelude.{find, take, length, slice_get, Option, Some, None}
use Rattle.std.specs.List.{AllByRecursion}
use Rattle.std.specs.Float.{Float}
use Rattle.std.specs.Float.Ieee.{le}
use Rattle.measured_values.specs.declared.text_table.TextRow.{TextRow}
use Rattle.mdf_blocks.specs.TextPlaces.{IsRising, is_within}
use Rattle.mdf_blocks.specs.declared.placed_text.PlacedText.{PlacedText}

-- what is found, or else another
abbrev pub or_else : {X : Type 0} → Option X → Option X → Option X
or_else (Some x) other = Some x
or_else None other = other

-- all numbers of a text are those of a place
abbrev pub is_inside : PlacedText → PlacedText → Bool
is_inside t p = le p.least t.least && le t.greatest p.greatest

-- this is the first place that doesn't end below a number, or the number of places
pub record IsFirstReached (least : Float) (ps : List PlacedText) (at : ℕ) : Type 0 where
  pub within : at ≤ length ps
  pub below : AllByRecursion (λ p. le least p.greatest ≡ false) (take at ps)
  pub reached : (p : PlacedText) → slice_get ps at ≡ Some p → le least p.greatest ≡ true

-- a text was placed: its numbers have it, unless they had another
pub record HasPlaced (old : List PlacedText) (t : PlacedText) (new : List PlacedText) : Type 0 where
  pub rising : IsRising new
  pub finds :
      (x : Float)
      → find (is_within x) new ≡ or_else (find (is_within x) old) (find (is_within x) (t ∷ []))
  pub members : (q : PlacedText) → Contains new q → Contains old q ⊎ (q ≡ t)

-- it can't be placed: some of its numbers are those of a place, and others aren't
pub record IsCrossed (old : List PlacedText) (t : PlacedText) : Type 0 where
  pub other : PlacedText
  pub there : Contains old other
  pub low : le t.least other.greatest ≡ true
  pub high : le other.least t.greatest ≡ true
  pub beyond : is_inside t other ≡ false

abbrev pub Placing : List PlacedText → PlacedText → Bool → List PlacedText → Type 0
Placing old t true new = HasPlaced old t new
Placing old t false new = IsCrossed old t

-- the numbers of a place are those of its row
pub record IsOf (rows : List TextRow) (p : PlacedText) : Type 0 where
  pub row : TextRow
  pub there : slice_get rows p.row ≡ Some row
  pub least : p.least ≡ row.least
  pub greatest : p.greatest ≡ row.greatest
