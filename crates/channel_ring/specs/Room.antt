-- What items cost in a ring.
use Rattle.std.specs.Prelude.{ℕ, ◌+◌, ◌≡◌, List, [], ◌∷◌, ◌++◌, length, refl}
use Rattle.std.proofs.Common.{arith}
use Rattle.xcp_base.specs.declared.item.Item.{Item}

-- the costs of some items, added up
abbrev pub units : (Item → ℕ) → List Item → ℕ
units cost [] = 0
units cost (x ∷ xs) = cost x + units cost xs

-- if each item costs 1, they are as many units as items
pub units-ones : (xs : List Item) → units (λ _. 1) xs ≡ length xs
units-ones [] = refl
units-ones (x ∷ xs) = omega (arith, units-ones xs)

-- joined lists take up what both take up
pub units-append : (cost : Item → ℕ) (xs ys : List Item)
    → units cost (xs ++ ys) ≡ units cost xs + units cost ys
units-append cost [] ys = omega arith
units-append cost (x ∷ xs) ys = omega (arith, units-append cost xs ys)
