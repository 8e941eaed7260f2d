-- A list without some of its items.
use Rattle.std.specs.Prelude.{◌≡◌, ℕ, suc, ◌⊎◌, List, [], ◌∷◌}

-- the second list is the first without n of its items, in their order
abbrev pub IsWithout : {X : Type 0} → ℕ → List X → List X → Type 0
IsWithout n [] ys = (n ≡ 0) × (ys ≡ [])
IsWithout {X} n (x ∷ xs) ys =
    ((rest : List X) × (ys ≡ x ∷ rest) × IsWithout n xs rest)
    ⊎ ((m : ℕ) × (n ≡ suc m) × IsWithout m xs ys)
