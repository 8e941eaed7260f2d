-- Lists of a known length.
use Rattle.std.proofs.Common.{◌≡◌, ℕ, List, [], ◌∷◌, ◌++◌, ◌∙◌, length, get_or, refl, ap, arith}
use Rattle.std.proofs.Common.{codes}
use Rattle.mdf_blocks.specs.Numbers.{uint16, zeros}
use Rattle.mdf_blocks.specs.Tables.{id_bytes}

-- the first eight elements
abbrev pub eight : List ℕ → List ℕ
eight xs =
    get_or xs 0 0 ∷ get_or xs 1 0 ∷ get_or xs 2 0 ∷ get_or xs 3 0
    ∷ get_or xs 4 0 ∷ get_or xs 5 0 ∷ get_or xs 6 0 ∷ get_or xs 7 0 ∷ []

pub eight_of : (xs : List ℕ) → length xs ≡ 8 → eight xs ≡ xs
eight_of [] e = absurd (omega arith)
eight_of (a ∷ []) e = absurd (omega arith)
eight_of (a ∷ b ∷ []) e = absurd (omega arith)
eight_of (a ∷ b ∷ d ∷ []) e = absurd (omega arith)
eight_of (a ∷ b ∷ d ∷ f ∷ []) e = absurd (omega arith)
eight_of (a ∷ b ∷ d ∷ f ∷ g ∷ []) e = absurd (omega arith)
eight_of (a ∷ b ∷ d ∷ f ∷ g ∷ h ∷ []) e = absurd (omega arith)
eight_of (a ∷ b ∷ d ∷ f ∷ g ∷ h ∷ i ∷ []) e = absurd (omega arith)
eight_of (a ∷ b ∷ d ∷ f ∷ g ∷ h ∷ i ∷ j ∷ []) e = refl
eight_of (a ∷ b ∷ d ∷ f ∷ g ∷ h ∷ i ∷ j ∷ k ∷ xs) e = absurd (omega arith)

-- ID, letter by letter
abbrev pub id_letters : List ℕ → List ℕ → List ℕ → List ℕ
id_letters file program flags =
    eight file ++ codes "4.10    " ++ eight program ++ zeros 4 ++ uint16 410 ++ zeros 30
    ++ (get_or flags 0 0 ∷ get_or flags 1 0 ∷ []) ++ uint16 0

pub id_letters_are : (file program bytes : List ℕ) (flags : ℕ) → length file ≡ 8
    → length program ≡ 8 → bytes ≡ uint16 flags
    → id_letters file program bytes ≡ id_bytes file program flags
id_letters_are file program bytes flags files programs are =
    ap (id_letters file program) are
    ∙ ap (λ fs. id_bytes fs (eight program) flags) (eight_of file files)
    ∙ ap (λ ps. id_bytes file ps flags) (eight_of program programs)
