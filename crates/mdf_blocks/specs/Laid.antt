-- Blocks one behind another, each with its fill, behind what a file begins with.
use Rattle.std.specs.Prelude.{◌≡◌, ◌⊎◌, ℕ, ◌%◌, ◌<◌, List, [], ◌∷◌, ◌++◌, All, length, take}
use Rattle.std.specs.Prelude.{slice_get, Some}
use Rattle.mdf_blocks.specs.Blocks.{IsBlock, IsBlockAt, block, filled}

-- the letters, the links and the data section of a block
pub record BlockOf : Type 0 where
  pub id : List ℕ
  pub links : List ℕ
  pub body : List ℕ

abbrev pub IsLegal : BlockOf → Type 0
IsLegal b = IsBlock b.id b.links b.body

-- the bytes of blocks
abbrev pub laid : List BlockOf → List ℕ
laid [] = []
laid (b ∷ bs) = filled (block b.id b.links b.body) ++ laid bs

-- where the i-th block begins
abbrev pub place_of : List ℕ → List BlockOf → ℕ → ℕ
place_of front bs i = length (front ++ laid (take i bs))

-- each link leads to one of the blocks, or to nothing
abbrev pub LinksLead : List ℕ → List BlockOf → Type 0
LinksLead front bs =
    All (λ b. All (λ link. (link ≡ 0) ⊎ ((i : ℕ) × (i < length bs) × (link ≡ place_of front bs i)))
    b.links) bs

-- each block is read where it begins
abbrev pub LaidAreRead : Type 0
LaidAreRead =
    (front behind : List ℕ) (bs : List BlockOf) (i : ℕ) (b : BlockOf) → length front % 8 ≡ 0
    → All IsLegal bs → slice_get bs i ≡ Some b
    → IsBlockAt (front ++ laid bs ++ behind) (place_of front bs i) b.id b.links b.body

-- so each link of a file leads to a block within it, or to nothing
abbrev pub LinksAreRead : Type 0
LinksAreRead =
    (front : List ℕ) (bs : List BlockOf) → length front % 8 ≡ 0 → All IsLegal bs
    → LinksLead front bs
    → All (λ b. All (λ link. (link ≡ 0)
    ⊎ ((to : BlockOf) × IsBlockAt (front ++ laid bs) link to.id to.links to.body)) b.links) bs
