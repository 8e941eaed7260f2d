-- That MDF's rule of a conversion says what the conversion says.
use Rattle.std.specs.Prelude.{◌≡◌, ◌↔◌, ℤ, pos, ◌+ℤ◌, ◌*ℤ◌, neg_ℤ, List, [], ◌∷◌}
use Rattle.std.specs.Float.{Float}
use Rattle.measured_values.specs.declared.text_table.TextRow.{TextRow}
use Rattle.mdf_blocks.specs.Rules.{AreKeys, linear_numbers, rational_numbers}
use Rattle.mdf_blocks.specs.TextPlaces.{row_by_range, row_by_value}
use Rattle.mdf_blocks.specs.declared.placed_text.PlacedText.{PlacedText}

-- ASAM MDF 4.1, CC: the formulas of linear and rational, over whole numbers, without a quotient
abbrev pub IsLinearOf : List ℤ → ℤ → ℤ → Type 0
IsLinearOf (p1 ∷ p2 ∷ []) raw physical = physical ≡ p1 +ℤ p2 *ℤ raw
IsLinearOf other raw physical = ⊥

abbrev pub IsRationalOf : List ℤ → ℤ → ℤ → Type 0
IsRationalOf (p1 ∷ p2 ∷ p3 ∷ p4 ∷ p5 ∷ p6 ∷ []) raw physical =
    (physical *ℤ ((p4 *ℤ (raw *ℤ raw)) +ℤ (p5 *ℤ raw) +ℤ p6))
    ≡ ((p1 *ℤ (raw *ℤ raw)) +ℤ (p2 *ℤ raw) +ℤ p3)
IsRationalOf other raw physical = ⊥

pub record SameFormulas : Type 0 where
  -- LINEAR: physical = factor * raw + offset
  pub linear :
      (factor offset raw physical : ℤ)
      → (physical ≡ ((factor *ℤ raw) +ℤ offset))
      ↔ (IsLinearOf (linear_numbers factor offset) raw physical)
  -- RAT_FUNC: raw = (b * physical + c) / f
  pub rational :
      (b c f raw physical : ℤ)
      → ((f *ℤ raw) ≡ ((b *ℤ physical) +ℤ c))
      ↔ (IsRationalOf (rational_numbers (pos 0) neg_ℤ b c f) raw physical)
  -- COMPU_VTAB: if each place is one number, value to text gives what value range to text gives
  pub texts :
      (rows : List TextRow) (ps : List PlacedText) (x : Float) → AreKeys ps
      → row_by_value rows ps x ≡ row_by_range rows ps x
