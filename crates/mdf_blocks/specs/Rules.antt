-- How MDF has the conversions of measured values (ASAM MCD-2 MC, COMPU_METHOD; ASAM MDF 4.1, CC).
use Rattle.std.specs.Prelude.{◌≡◌, ◌⊎◌, ◌<◌, ◌≤◌, Bool, true, false, List, [], ◌∷◌, length, map}
use Rattle.std.specs.List.{flat_map, list_all}
use Rattle.std.specs.Float.{Float, float_zero}
use Rattle.std.specs.Float.Ieee.{eq, neg}
use Rattle.measured_values.specs.declared.conversion.Conversion.{Conversion}
use Rattle.measured_values.specs.declared.conversion.Conversion.TheVariants.{Identical, Linear}
use Rattle.measured_values.specs.declared.conversion.Conversion.TheVariants.{Other, Rational, Texts}
use Rattle.measured_values.specs.declared.text_table.TextRow.{TextRow}
use Rattle.mdf_blocks.specs.TextPlaces.{ArePlaces, SomeCross}
use Rattle.mdf_blocks.specs.declared.placed_text.PlacedText.{PlacedText}
use Rattle.mdf_blocks.specs.declared.rule.Rule.{Rule}
use Rattle.mdf_blocks.specs.declared.rule.Rule.TheVariants as rule
use Rattle.mdf_blocks.specs.declared.rule.TheConstants.{MAX_TEXTS}

-- COEFFS_LINEAR has the factor first, and MDF the offset: physical = P1 + P2 * raw
abbrev pub linear_numbers : {X : Type 0} → X → X → List X
linear_numbers factor offset = offset ∷ factor ∷ []

-- RAT_FUNC gives the raw value of the physical one, (b * physical + c) / f, and MDF the physical
-- one of the raw one: (P1 * raw^2 + P2 * raw + P3) / (P4 * raw^2 + P5 * raw + P6)
abbrev pub rational_numbers : {X : Type 0} → X → (X → X) → X → X → X → List X
rational_numbers zero minus b c f = zero ∷ f ∷ minus c ∷ zero ∷ zero ∷ b ∷ []

-- each place is one number
abbrev pub is_key : PlacedText → Bool
is_key p = eq p.least p.greatest

abbrev pub AreKeys : List PlacedText → Type 0
AreKeys ps = list_all is_key ps ≡ true

-- cc_val of value to text, and of value range to text
abbrev pub keys_of : List PlacedText → List Float
keys_of ps = map (λ p. p.least) ps

abbrev pub bounds_of : List PlacedText → List Float
bounds_of ps = flat_map (λ p. p.least ∷ p.greatest ∷ []) ps

-- there are more texts than a conversion can have, or ranges of values that aren't whole: MDF
-- compares these without the greatest of a range
abbrev pub CannotSay : Bool → List PlacedText → Type 0
CannotSay whole ps =
    (MAX_TEXTS < length ps) ⊎ ((whole ≡ false) × (list_all is_key ps ≡ false))

-- a table of texts
abbrev pub IsTextRule : List TextRow → Bool → Rule → Type 0
IsTextRule rows whole rule.Identical = ⊥
IsTextRule rows whole (rule.Linear numbers) = ⊥
IsTextRule rows whole (rule.Rational numbers) = ⊥
IsTextRule rows whole (rule.Values ps) =
    ArePlaces rows ps.items × AreKeys ps.items × (length ps.items ≤ MAX_TEXTS)
IsTextRule rows whole (rule.Ranges ps) =
    ArePlaces rows ps.items × (whole ≡ true) × (length ps.items ≤ MAX_TEXTS)
IsTextRule rows whole rule.Lost =
    SomeCross rows ⊎ ((ps : List PlacedText) × ArePlaces rows ps × CannotSay whole ps)

-- the rule of a conversion of raw values that are whole, or not
abbrev pub IsRule : Conversion → Bool → Rule → Type 0
IsRule Identical whole it = it ≡ rule.Identical
IsRule (Linear factor offset) whole it = it ≡ rule.Linear (linear_numbers factor offset)
IsRule (Rational b c f) whole it = it ≡ rule.Rational (rational_numbers float_zero neg b c f)
IsRule (Texts table) whole it = IsTextRule table.rows.items whole it
IsRule Other whole it = it ≡ rule.Lost
