-- What contracts see of a page.
use Rattle.std.specs.Prelude.{ℕ, List, [], ◌∷◌, drop, take}
use Rattle.frame_ring.specs.Reading.{flat, packets_in}
use Rattle.frame_page.specs.Laid.{Laid}
use Rattle.frame_page.specs.declared.unit.Unit.{Unit}

-- what waits, the oldest first; CTR of the first frame of it, or of the next one; how many blocks
-- are taken up, and how many there are; and how many samples and replies find a place
pub record PageState (O : Type 0) : Type 0 where
  pub waits : List (Laid O)
  pub counter : ℕ
  pub used : ℕ
  pub blocks : ℕ
  pub most : ℕ

-- what stands in the first blocks as this unit has it
abbrev pub laid_in : {O : Type 0} → List (List ℕ) → Unit O → Laid O
laid_in blocks u = record {
  origin = u.origin;
  packets = packets_in u.count (drop u.at (flat (take u.blocks blocks)));
  blocks = u.blocks;
}

-- what stands in blocks, unit by unit
abbrev pub waits_in : {O : Type 0} → List (List ℕ) → List (Unit O) → List (Laid O)
waits_in blocks [] = []
waits_in blocks (u ∷ us) = laid_in blocks u ∷ waits_in (drop u.blocks blocks) us
