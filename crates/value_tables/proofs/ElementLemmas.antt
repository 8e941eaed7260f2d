-- The elements of an array, one after another, and what stands in the places of measurements.
use Rattle.std.proofs.Common.{◌≡◌, ℕ, Bool, true, ◌+◌, List, [], ◌∷◌, ◌++◌, sym, ap, ◌∙◌, add-one}
use Rattle.std.proofs.Common.{Option, Some, refl}
use Rattle.std.proofs.Common.{append-nil, append_assoc, map}
use Rattle.std.proofs.lemmas.List.{flat_map_more, map_push}
use Rattle.std.specs.List.{flat_map}
use Rattle.a2l.specs.Elements.{element_address, element_at}
use Rattle.a2l.specs.Resolved.{Value}
use Rattle.measured_values.specs.Encodings.{size_of}
use Rattle.value_tables.specs.Elements.{element_if, elements_below}

-- before the first element there is none
pub elements_begin : (held : ℕ → ℕ → Bool) (v : Value) (base : List Value)
    → base ≡ base ++ elements_below held v 0
unfolding elements_below
elements_begin held v base = sym (append-nil base)

-- an element more
pub elements_go_on :
    (held : ℕ → ℕ → Bool) (v : Value) (base old new : List Value) (k : ℕ)
    → new ≡ old ++ element_if held v k (element_address v k)
    → old ≡ base ++ elements_below held v k → new ≡ base ++ elements_below held v (k + 1)
unfolding elements_below
elements_go_on held v base old new k step so_far =
    let one = element_if held v k (element_address v k) in
    step ∙ ap (λ (xs : List Value). xs ++ one) so_far
    ∙ append_assoc base (elements_below held v k) one
    ∙ ap (λ (n : ℕ). base ++ elements_below held v n) (sym (add-one k))

-- what comes of one value more, behind what came of those before
pub one_value_more :
    {A B C : Type 0} (f : B → List C) (seen : A → B) (base old new : List C) (xs : List A) (x : A)
    → new ≡ old ++ f (seen x) → old ≡ base ++ flat_map f (map seen xs)
    → new ≡ base ++ flat_map f (map seen (xs ++ x ∷ []))
one_value_more f seen base old new xs x step so_far =
    step ∙ ap (λ ys. ys ++ f (seen x)) so_far ∙ flat_map_more f base (map seen xs) (seen x)
    ∙ ap (λ zs. base ++ flat_map f zs) (sym (map_push seen xs x))

-- what stands for an element that has an address and is there
pub element_there :
    (held : ℕ → ℕ → Bool) (v : Value) (k address : ℕ) (o : Option ℕ) → o ≡ Some address
    → held address (size_of v.encoding.data_type) ≡ true
    → element_if held v k o ≡ element_at v k address ∷ []
element_there held v k address o at there = rw (at, there) refl
