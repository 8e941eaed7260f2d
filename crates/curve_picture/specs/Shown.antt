-- What a picture shows to contracts.
use Rattle.std.specs.Prelude.{ℕ, List, string_bytes}
use Rattle.curve_picture.specs.declared.row.Row.{Row}
use Rattle.curve_picture.specs.declared.caption.Caption.{Caption}

-- the rows, their names and units, the places of one bin, and the least and the greatest place of
-- all values
pub record Gathered : Type 0 where
  pub rows : List Row
  pub names : List (List ℕ × List ℕ)
  pub width : ℕ
  pub first : ℕ
  pub last : ℕ

-- a name and a unit
abbrev pub name_of : Caption → List ℕ × List ℕ
name_of caption = (string_bytes caption.name, string_bytes caption.unit)
