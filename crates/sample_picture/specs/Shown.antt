-- What a picture shows to contracts, and the first one.
use Rattle.std.specs.Prelude.{◌≡◌, ℕ, List, ◌++◌, codes}
use Rattle.sample_picture.specs.declared.row.Row.{Row}

-- the rows, the places of one bin, and the least and the greatest place of all samples
pub record Gathered : Type 0 where
  pub rows : List Row
  pub width : ℕ
  pub first : ℕ
  pub last : ℕ

-- a text of SVG has its end
abbrev pub IsClosed : List ℕ → Type 0
IsClosed text = (front : List ℕ) × (text ≡ front ++ codes "</svg>\n")
