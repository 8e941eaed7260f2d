-- Numbers one behind another.
use Rattle.std.proofs.Common.{◌≡◌, ℕ, ◌+◌, ◌<◌, List, [], ◌∷◌, ◌++◌, length, get_or, take, refl, ap}
use Rattle.std.proofs.Common.{◌∙◌}
use Rattle.std.proofs.Common.{arith, append_assoc, append-nil, sym}
use Rattle.std.proofs.Common.{map, length-append, ◌*◌}
use Rattle.std.specs.Float.{binary64}
use Rattle.std.specs.Float.Ieee.{to_bits}
use Rattle.std.specs.Float.{Float}
use Rattle.std.proofs.lemmas.List.{map_more, take_more}
use Rattle.mdf_blocks.specs.Numbers.{real, reals, uint64, uint64s}

pub uint64s-append : (xs ys : List ℕ) → uint64s (xs ++ ys) ≡ uint64s xs ++ uint64s ys
uint64s-append [] ys = refl
uint64s-append (x ∷ xs) ys =
    ap (λ zs. uint64 x ++ zs) (uint64s-append xs ys)
    ∙ sym (append_assoc (uint64 x) (uint64s xs) (uint64s ys))

-- one number more
pub uint64s-more : (xs : List ℕ) (i : ℕ) → i < length xs
    → uint64s (take (i + 1) xs) ≡ uint64s (take i xs) ++ uint64 (get_or xs i 0)
uint64s-more xs i within =
    ap uint64s (take_more xs i 0 within) ∙ uint64s-append (take i xs) (get_or xs i 0 ∷ [])
    ∙ ap (λ zs. uint64s (take i xs) ++ zs) (append-nil (uint64 (get_or xs i 0)))

-- a number of each element of a list
pub uint64s-map-more : {X : Type 0} (f : X → ℕ) (xs : List X) (i : ℕ) (d : X) → i < length xs
    → uint64s (map f (take (i + 1) xs))
    ≡ uint64s (map f (take i xs)) ++ uint64 (f (get_or xs i d))
uint64s-map-more f xs i d within =
    ap uint64s (map_more f xs i d within)
    ∙ uint64s-append (map f (take i xs)) (f (get_or xs i d) ∷ [])
    ∙ ap (λ zs. uint64s (map f (take i xs)) ++ zs) (append-nil (uint64 (f (get_or xs i d))))

pub reals-append : (xs ys : List Float) → reals (xs ++ ys) ≡ reals xs ++ reals ys
reals-append [] ys = refl
reals-append (x ∷ xs) ys =
    ap (λ zs. real x ++ zs) (reals-append xs ys)
    ∙ sym (append_assoc (real x) (reals xs) (reals ys))

-- one float more
pub reals-more : (xs : List Float) (i : ℕ) (d : Float) → i < length xs
    → reals (take (i + 1) xs) ≡ reals (take i xs) ++ real (get_or xs i d)
reals-more xs i d within =
    ap reals (take_more xs i d within) ∙ reals-append (take i xs) (get_or xs i d ∷ [])
    ∙ ap (λ zs. reals (take i xs) ++ zs) (append-nil (real (get_or xs i d)))

-- floats behind what was there, and one more behind them
pub reals-pushed : (old bytes new : List ℕ) (xs : List Float) (i bits : ℕ) (d : Float)
    → i < length xs → bits ≡ to_bits binary64 (get_or xs i d) → bytes ≡ uint64 bits
    → new ≡ (old ++ reals (take i xs)) ++ bytes → new ≡ old ++ reals (take (i + 1) xs)
reals-pushed old bytes new xs i bits d within bits_are bytes_are new_is =
    new_is ∙ append_assoc old (reals (take i xs)) bytes
    ∙ ap (λ (zs : List ℕ). old ++ zs) (
    ap (λ (zs : List ℕ). reals (take i xs) ++ zs) (bytes_are ∙ ap uint64 bits_are)
    ∙ sym (reals-more xs i d within))

-- a number of each element, and one more
pub numbers-pushed : {X : Type 0} (f : X → ℕ) (xs : List X) (i : ℕ) (d : X)
    (old bytes new : List ℕ) (n : ℕ) → i < length xs → n ≡ f (get_or xs i d) → bytes ≡ uint64 n
    → new ≡ (old ++ uint64s (map f (take i xs))) ++ bytes
    → new ≡ old ++ uint64s (map f (take (i + 1) xs))
numbers-pushed f xs i d old bytes new n within n_is bytes_are new_is =
    new_is ∙ append_assoc old (uint64s (map f (take i xs))) bytes
    ∙ ap (λ (zs : List ℕ). old ++ zs) (
    ap (λ (zs : List ℕ). uint64s (map f (take i xs)) ++ zs) (bytes_are ∙ ap uint64 n_is)
    ∙ sym (uint64s-map-more f xs i d within))

pub length-uint64s : (ns : List ℕ) → length (uint64s ns) ≡ 8 * length ns
length-uint64s [] = refl
length-uint64s (n ∷ ns) =
    omega (arith, length-append (uint64 n) (uint64s ns), length-uint64s ns)

pub length-reals : (xs : List Float) → length (reals xs) ≡ 8 * length xs
length-reals [] = refl
length-reals (x ∷ xs) = omega (arith, length-append (real x) (reals xs), length-reals xs)
