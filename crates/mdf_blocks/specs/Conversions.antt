-- Conversions (ASAM MDF 4.1, CC).
use Rattle.std.specs.Prelude.{ℕ, List, ◌∷◌, ◌++◌, codes, length}
use Rattle.std.specs.Float.{Float}
use Rattle.mdf_blocks.specs.Blocks.{block}
use Rattle.mdf_blocks.specs.Numbers.{reals, uint16, uint8, zeros}
use Rattle.mdf_blocks.specs.declared.conversion_kind.ConversionKind.{ConversionKind}
use Rattle.mdf_blocks.specs.declared.conversion_kind.ConversionKind.TheVariants.{Linear, Rational}
use Rattle.mdf_blocks.specs.declared.conversion_kind.ConversionKind.TheVariants.{RangesToTexts}
use Rattle.mdf_blocks.specs.declared.conversion_kind.ConversionKind.TheVariants.{ValuesToTexts}

-- cc_type
abbrev pub cc_type : ConversionKind → ℕ
cc_type Linear = 1
cc_type Rational = 2
cc_type ValuesToTexts = 7
cc_type RangesToTexts = 8

-- CC, with the place of its unit, the places of its texts, and its numbers
abbrev pub cc_links : ℕ → List ℕ → List ℕ
cc_links unit references =
    0  -- cc_tx_name
    ∷ unit  -- cc_md_unit
    ∷ 0  -- cc_md_comment
    ∷ 0  -- cc_cc_inverse
    ∷ references  -- cc_ref

abbrev pub cc_front : ConversionKind → ℕ → ℕ → List ℕ
cc_front kind references values =
    uint8 (cc_type kind)  -- cc_type
    ++ uint8 0  -- cc_precision
    ++ uint16 0  -- cc_flags
    ++ uint16 references  -- cc_ref_count
    ++ uint16 values  -- cc_val_count
    ++ zeros 8  -- cc_phy_range_min
    ++ zeros 8  -- cc_phy_range_max

abbrev pub cc_body : ConversionKind → ℕ → List Float → List ℕ
cc_body kind references values =
    cc_front kind references (length values)
    ++ reals values  -- cc_val

abbrev pub cc_block : ConversionKind → ℕ → List ℕ → List Float → List ℕ
cc_block kind unit references values =
    block (codes "##CC") (cc_links unit references) (cc_body kind (length references) values)
