-- Texts that are printed piece by piece.
use Rattle.std.proofs.Common.{◌≡◌, ℕ, zero, suc, ◌+◌, ◌<◌, ◌≤◌, get_or, List, [], ◌∷◌, ◌++◌, length, take, Some, Result, Ok, Err, refl, sym, ap, ◌∙◌, arith, append-nil, append_assoc, add-one}
use Rattle.std.specs.Prelude.{flat_map, slice_get, OnOk}
use Rattle.std.specs.List.{enumerate_from}
use Rattle.std.proofs.lemmas.List.{take_all}
use Rattle.std.proofs.lemmas.Option.{slice_get-get_or}
use Rattle.std.proofs.lemmas.List.FromFn.{length-enumerate_from}

-- the text of one element more, with its place
one_more : {X : Type 0} (f : ℕ × X → List ℕ) (n : ℕ) (xs : List X) (i : ℕ) (x : X) → slice_get xs i ≡ Some x
    → flat_map f (take (suc i) (enumerate_from n xs)) ≡ flat_map f (take i (enumerate_from n xs)) ++ f (n + i, x)
one_more f n [] i x h = absurd (cc)
one_more f n (y ∷ xs) zero x h =
    let is : y ≡ x = cc in
    let at : n ≡ n + 0 = omega arith in
    append-nil (f (n, y)) ∙ ap (λ (k : ℕ). f (k, y)) at ∙ ap (λ z. f (n + 0, z)) is
one_more f n (y ∷ xs) (suc i) x h =
    let at : n + 1 + i ≡ n + suc i = omega arith in
    ap (λ t. f (n, y) ++ t) (one_more f (n + 1) xs i x h ∙ ap (λ (k : ℕ). flat_map f (take i (enumerate_from (n + 1) xs)) ++ f (k, x)) at)
    ∙ sym (append_assoc (f (n, y)) (flat_map f (take i (enumerate_from (n + 1) xs))) (f (n + suc i, x)))

pub enumerated_more : {X : Type 0} (f : ℕ × X → List ℕ) (xs : List X) (i : ℕ) (x : X) → slice_get xs i ≡ Some x
    → flat_map f (take (i + 1) (enumerate_from 0 xs)) ≡ flat_map f (take i (enumerate_from 0 xs)) ++ f (i, x)
enumerated_more f xs i x h =
    let at : 0 + i ≡ i = omega arith in
    rw add-one (one_more f 0 xs i x h ∙ ap (λ (k : ℕ). flat_map f (take i (enumerate_from 0 xs)) ++ f (k, x)) at)

pub enumerated_all : {X : Type 0} (f : ℕ × X → List ℕ) (xs : List X) (n : ℕ) → length xs ≤ n
    → flat_map f (take n (enumerate_from 0 xs)) ≡ flat_map f (enumerate_from 0 xs)
enumerated_all f xs n h = ap (flat_map f) (take_all n (enumerate_from 0 xs) (omega (arith, h, length-enumerate_from 0 xs)))

pub enumerated_none : {X : Type 0} (f : ℕ × X → List ℕ) (xs : List X) → flat_map f (take 0 (enumerate_from 0 xs)) ≡ []
enumerated_none f [] = refl
enumerated_none f (x ∷ xs) = refl

pub behind_none : {X : Type 0} (head : List ℕ) (f : ℕ × X → List ℕ) (xs : List X) → head ≡ head ++ flat_map f (take 0 (enumerate_from 0 xs))
behind_none head f xs = sym (ap (λ t. head ++ t) (enumerated_none f xs) ∙ append-nil head)

-- what is at a place
pub there : {X : Type 0} (xs : List X) (i : ℕ) (x : X) → i < length xs → x ≡ get_or xs i x → slice_get xs i ≡ Some x
there xs i x h is = slice_get-get_or xs i x h ∙ ap Some (sym is)

-- what follows of a printing that succeeded
pub with_ok : {T E : Type 0} (printing : Result T E) (P Q : Type 0) → (P → Q) → OnOk printing P → OnOk printing Q
with_ok (Ok x) P Q f p = f p
with_ok (Err e) P Q f p = tt
