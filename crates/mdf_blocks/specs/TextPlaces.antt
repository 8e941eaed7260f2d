-- The rows of a table of texts, in the order that MDF asks for (ASAM MDF 4.1, CC: value to text and
-- value range to text): rising, and no two with a number in common.
use Rattle.std.specs.Prelude.{◌≡◌, ℕ, ◌<◌, Bool, ◌&&◌}
use Rattle.std.specs.Prelude.{List, [], ◌∷◌, find, length, slice_get, option_and_then}
use Rattle.std.specs.Prelude.{Option, Some}
use Rattle.std.specs.List.{AllByRecursion}
use Rattle.std.specs.Float.{Float, ◌<ᶠ◌, ◌≤ᶠ◌}
use Rattle.std.specs.Float.Ieee.{eq, le}
use Rattle.measured_values.specs.Physicals.{takes_in}
use Rattle.measured_values.specs.declared.text_table.TextRow.{TextRow}
use Rattle.mdf_blocks.specs.declared.placed_text.PlacedText.{PlacedText}

-- they rise, and no two have a number in common
abbrev pub IsRising : List PlacedText → Type 0
IsRising [] = Unit {0}
IsRising (p ∷ ps) =
    (p.least ≤ᶠ p.greatest) × AllByRecursion (λ q. p.greatest <ᶠ q.least) ps × IsRising ps

-- a number is in the range of a place
abbrev pub is_within : Float → PlacedText → Bool
is_within x p = le p.least x && le x p.greatest

-- MDF's value range to text: the row of the range that a number is in
abbrev pub row_by_range : List TextRow → List PlacedText → Float → Option TextRow
row_by_range rows ps x = option_and_then (λ p. slice_get rows p.row) (find (is_within x) ps)

-- MDF's value to text: the row of the key that a number is
abbrev pub row_by_value : List TextRow → List PlacedText → Float → Option TextRow
row_by_value rows ps x = option_and_then (λ p. slice_get rows p.row) (find (λ p. eq p.least x) ps)

-- the places are those of the rows: they rise, and each number has the row that the table gives it
pub record ArePlaces (rows : List TextRow) (ps : List PlacedText) : Type 0 where
  pub rising : IsRising ps
  pub within : AllByRecursion (λ p. p.row < length rows) ps
  pub same : (x : Float) → row_by_range rows ps x ≡ find (takes_in x) rows

-- a row and a later one have numbers in common, and the later one has others too: what the table
-- says of these MDF can't say
pub record Crosses (r s : TextRow) : Type 0 where
  pub low : s.least ≤ᶠ r.greatest
  pub high : r.least ≤ᶠ s.greatest
  pub beyond : (r.least ≤ᶠ s.least) × (s.greatest ≤ᶠ r.greatest) → ⊥

pub record SomeCross (rows : List TextRow) : Type 0 where
  pub earlier : ℕ
  pub later : ℕ
  pub first : TextRow
  pub second : TextRow
  pub order : earlier < later
  pub is_first : slice_get rows earlier ≡ Some first
  pub is_second : slice_get rows later ≡ Some second
  pub crosses : Crosses first second
