-- What was taken from several rings, in the order in which it was taken: each item with the number
-- of its ring.
use Rattle.std.specs.Prelude.{ℕ, ◌+◌, ◌≤◌, ◌≡◌, cond, ◌==◌, List, [], ◌∷◌, ◌++◌}
use Rattle.std.specs.Prelude.{map, slice_index_or}
use mathlib.Core.List.{IsPrefix}
use Rattle.xcp_base.specs.declared.item.Item.{Item}

-- the items of ring c, where the c-th list has them; none where there is no such ring
abbrev pub of_ring : List (List Item) → ℕ → List Item
of_ring lists c = slice_index_or lists c []

-- what was taken from ring c
abbrev pub taken_from : ℕ → List (ℕ × Item) → List Item
taken_from c [] = []
taken_from c (p ∷ ps) = cond (p.0 == c) (p.1 ∷ taken_from c ps) (taken_from c ps)

-- the items, in the order in which they were taken
abbrev pub items_taken : List (ℕ × Item) → List Item
items_taken ps = map (λ (p : ℕ × Item). p.1) ps

-- the pairs are a merge of the lists: what was taken from ring c is the c-th list, and nothing is
-- of a ring that isn't there
pub record IsMerge (lists : List (List Item)) (ps : List (ℕ × Item)) : Type 0 where
  pub each : (c : ℕ) → taken_from c ps ≡ of_ring lists c

-- the rings rise from `low` on, so that none comes twice
abbrev pub AreRising : ℕ → List (ℕ × Item) → Type 0
AreRising low [] = Unit {0}
AreRising low (p ∷ ps) = (low ≤ p.0) × AreRising (p.0 + 1) ps

-- what was received from each ring, and what is known to be there, before and after these items
-- were taken: of each ring, what is received gains what was taken; the first items that were known
-- are taken first, and none of them is forgotten
pub record Takes (received new_received known new_known : List (List Item)) (ps : List (ℕ × Item))
    : Type 0 where
  pub gains : (c : ℕ) → of_ring new_received c ≡ of_ring received c ++ taken_from c ps
  pub first : (c : ℕ) → IsPrefix (of_ring known c) (taken_from c ps ++ of_ring new_known c)
