-- Lines that are printed one after another.
use Rattle.std.proofs.Common.{◌≡◌, ℕ, ◌+◌, ◌≤◌, List, [], ◌∷◌, ◌++◌, length, take, slice_get, Option, Some, sym, ap, subst, ◌∙◌, add-one, append-nil, append_assoc}
use Rattle.std.specs.Io.KnownBytes.{Appends, Keeps}
use Rattle.std.specs.List.{AllZip}
use Rattle.std.proofs.KnownBytes.{Appends-kept, Appends-trans}
use Rattle.std.proofs.lemmas.List.{take_all}
use Rattle.value_tables.specs.TallyText.{joined}
use Rattle.value_tables.proofs.CellLemmas.{all_zip-push, take-more}

-- behind a head, a line for each of some elements was printed
abbrev pub HasLines : {X : Type 0} → (X → List ℕ → Type 0) → List ℕ → Option (List ℕ) → Option (List ℕ) → List X → Type 0
HasLines R head before now xs = (lines : List (List ℕ)) × AllZip R xs lines × Appends before now (head ++ joined lines)

joined-push : (lines : List (List ℕ)) (line : List ℕ) → joined (lines ++ line ∷ []) ≡ joined lines ++ line
joined-push [] line = append-nil line
joined-push (l ∷ lines) line = ap (λ t. l ++ t) (joined-push lines line) ∙ sym (append_assoc l (joined lines) line)

-- the head alone
pub lines_none : {X : Type 0} (R : X → List ℕ → Type 0) (head : List ℕ) (before now : Option (List ℕ)) → Appends before now head → HasLines R head before now []
lines_none R head before now at = ([], tt, subst (λ t. Appends before now t) (sym (append-nil head)) at)

-- one line more
pub lines_more : {X : Type 0} (R : X → List ℕ → Type 0) (head : List ℕ) (before mid now : Option (List ℕ)) (xs : List X) (i : ℕ) (x : X) → slice_get xs i ≡ Some x
    → HasLines R head before mid (take i xs) → ((line : List ℕ) × R x line × Appends mid now line) → HasLines R head before now (take (i + 1) xs)
lines_more R head before mid now xs i x at (lines, all, text) (line, is, more) =
    rw add-one (
      lines ++ line ∷ [],
      subst (λ ys. AllZip R ys (lines ++ line ∷ [])) (sym (take-more xs i x at)) (all_zip-push R (take i xs) lines x line all is),
      subst (λ t. Appends before now t) (append_assoc head (joined lines) line ∙ ap (λ t. head ++ t) (sym (joined-push lines line))) (Appends-trans before mid now _ _ text more),
    )

-- a line for each
pub lines_all : {X : Type 0} (R : X → List ℕ → Type 0) (head : List ℕ) (before mid now : Option (List ℕ)) (xs : List X) (i : ℕ) → length xs ≤ i
    → HasLines R head before mid (take i xs) → Keeps mid now → HasLines R head before now xs
lines_all R head before mid now xs i past (lines, all, text) kept =
    (lines, subst (λ ys. AllZip R ys lines) (take_all i xs past) all, Appends-kept before mid now _ text kept)
