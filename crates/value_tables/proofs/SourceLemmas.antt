-- The first source that a list's elements give.
use Rattle.std.proofs.Common.{◌≡◌, true, false, ℕ, zero, suc, ◌+◌, ◌≤◌, List, [], ◌∷◌, length, drop, slice_get, Option, Some, None, refl, sym, ap, ◌∙◌, arith, add-one}
use Rattle.std.specs.Option.{is_some}
use Rattle.value_tables.specs.Sources.{first_of, or_else}
use Rattle.value_tables.specs.declared.source.Source.{Source}

-- the elements from a place on, the first of them apart
at_drop : {X : Type 0} (f : ℕ → X → Option Source) (n i : ℕ) (x : X) (xs : List X) → slice_get xs i ≡ Some x
    → first_of f n (drop i xs) ≡ or_else (f n x) (first_of f (suc n) (drop (suc i) xs))
at_drop f n i x [] h = absurd (cc)
at_drop f n zero x (y ∷ xs) h =
    let is : y ≡ x = cc in
    ap (λ z. or_else (f n z) (first_of f (suc n) xs)) is
at_drop f n (suc i) x (y ∷ xs) h = at_drop f n i x xs h

-- where something is there, the rest doesn't count; where nothing is, it does
kept : (o rest : Option Source) → is_some o ≡ true → or_else o rest ≡ o
kept (Some s) rest h = refl
kept None rest h = absurd (cc (h))

passed : (o rest : Option Source) → is_some o ≡ false → or_else o rest ≡ rest
passed None rest h = refl
passed (Some s) rest h = absurd (cc (h))

-- it gives one
pub first_here : {X : Type 0} (f : ℕ → X → Option Source) (i : ℕ) (x : X) (xs : List X) (o : Option Source) → slice_get xs i ≡ Some x → o ≡ f i x
    → is_some o ≡ true → first_of f i (drop i xs) ≡ o
first_here f i x xs o h is some =
    let rest = first_of f (suc i) (drop (suc i) xs) in
    at_drop f i i x xs h ∙ ap (λ o. or_else o rest) (sym is) ∙ kept o rest some

-- it gives none
pub first_later : {X : Type 0} (f : ℕ → X → Option Source) (i : ℕ) (x : X) (xs : List X) (o : Option Source) → slice_get xs i ≡ Some x → o ≡ f i x
    → is_some o ≡ false → first_of f i (drop i xs) ≡ first_of f (i + 1) (drop (i + 1) xs)
first_later f i x xs o h is none =
    let rest = first_of f (suc i) (drop (suc i) xs) in
    rw add-one (at_drop f i i x xs h ∙ ap (λ o. or_else o rest) (sym is) ∙ passed o rest none)

-- none is left
pub first_nowhere : {X : Type 0} (f : ℕ → X → Option Source) (n i : ℕ) (xs : List X) → length xs ≤ i → first_of f n (drop i xs) ≡ None
first_nowhere f n zero [] h = refl
first_nowhere f n (suc i) [] h = refl
first_nowhere f n zero (x ∷ xs) h = absurd (omega (arith, h))
first_nowhere f n (suc i) (x ∷ xs) h = first_nowhere f n i xs (omega (arith, h))
