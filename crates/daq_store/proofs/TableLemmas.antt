-- Lists that are made from a function of the index, and tests and sums over them.
use Rattle.std.proofs.Common.{nat_lt, replicate, ◌⊎◌, inl, inr, eqb, zero-add, ◌≡◌, ◌≢◌, ℕ, zero, suc, ◌+◌, ◌<◌, Bool, true, false, ◌&&◌, ◌||◌, List, [], ◌∷◌, length, get_or, set, map, refl, sym, ◌∙◌, ap, arith, sum, sum_by}
use Rattle.std.specs.List.{list_any, range_with_len}
use Rattle.std.proofs.lemmas.Grind.{get_or-set_at}
use Rattle.std.proofs.lemmas.Bool.Decides.{eqb_tells, leb_tells}
use Rattle.std.proofs.lemmas.List.{length-set, get_or-set_other}
use Rattle.std.proofs.lemmas.List.FromFn.{fill_by_all, length-map-range_with_len, get_or-map-range_with_len}
use Rattle.std.proofs.lemmas.List.Sums.{sum_by-cons, sum-map}
use Rattle.daq_store.specs.Calls.{numbers_below}

-- tests agree on a list where they agree on each element
pub list_any-map : {X Y : Type 0} (test : Y → Bool) (f : X → Y) (xs : List X) → list_any test (map f xs) ≡ list_any (λ x. test (f x)) xs
list_any-map test f [] = refl
list_any-map test f (x ∷ xs) = ap (λ b. test (f x) || b) (list_any-map test f xs)

pub sum_by-map : {X Y : Type 0} (g : Y → ℕ) (f : X → Y) (xs : List X) → sum_by g (map f xs) ≡ sum_by (λ x. g (f x)) xs
sum_by-map g f [] = refl
sum_by-map g f (x ∷ xs) =
    sum_by-cons g (f x) (map f xs) ∙ ap (λ n. g (f x) + n) (sum_by-map g f xs) ∙ sym (sum_by-cons (λ x. g (f x)) x xs)

-- a list made from a function of the index, after a write
set-map_below_at : {X : Type 0} (f g : ℕ → X) (n l k : ℕ) → l < n → k < n → ((i : ℕ) → i < n → i ≢ l → f i ≡ g i)
    → ((eqb k l ≡ true) × (k ≡ l)) ⊎ ((eqb k l ≡ false) × (k ≢ l))
    → get_or (set (map f (numbers_below n)) l (g l)) k (g 0) ≡ g k
set-map_below_at f g n l k inside here same (inl e) =
    let long : l < length (map f (range_with_len 0 n)) = rw (length-map-range_with_len f 0 n) inside in
    get_or-set_at (map f (numbers_below n)) l k (g l) (g 0) e.1 long ∙ ap g (sym e.1)
set-map_below_at f g n l k inside here same (inr e) =
    get_or-set_other (map f (numbers_below n)) l k (g l) (g 0) e.1
    ∙ get_or-map-range_with_len f 0 n k k (g 0) here (zero-add k) ∙ same k here e.1

pub set-map_below : {X : Type 0} (f g : ℕ → X) (n l : ℕ) → l < n → ((i : ℕ) → i < n → i ≢ l → f i ≡ g i)
    → set (map f (numbers_below n)) l (g l) ≡ map g (numbers_below n)
set-map_below f g n l inside same =
    fill_by_all g (set (map f (numbers_below n)) l (g l)) n (g 0) (length-set (map f (numbers_below n)) l (g l) ∙ length-map-range_with_len f 0 n)
    (λ k h. set-map_below_at f g n l k inside h same (eqb_tells k l))

-- what is made from two functions that agree
pub map-same : {X Y : Type 0} (f g : X → Y) (xs : List X) → ((x : X) → f x ≡ g x) → map f xs ≡ map g xs
map-same f g [] same = refl
map-same f g (x ∷ xs) same = ap (λ y. y ∷ map f xs) (same x) ∙ ap (λ ys. g x ∷ ys) (map-same f g xs same)

pub sum_by-same : {X : Type 0} (f g : X → ℕ) (xs : List X) → ((x : X) → f x ≡ g x) → sum_by f xs ≡ sum_by g xs
sum_by-same f g xs same = sym (sum-map f xs) ∙ ap sum (map-same f g xs same) ∙ sum-map g xs

-- a list of one value, made from a function of the index
pub map-one : {X : Type 0} (f : ℕ → X) (x : X) (n a : ℕ) → ((k : ℕ) → f k ≡ x) → map f (range_with_len a n) ≡ replicate n x
map-one f x zero a same = refl
map-one f x (suc n) a same = ap (λ y. y ∷ map f (range_with_len (a + 1) n)) (same a) ∙ ap (λ ys. x ∷ ys) (map-one f x n (a + 1) same)

-- both tests hold
pub and_left : (a b : Bool) → (a && b) ≡ true → a ≡ true
and_left true b h = refl
and_left false b h = cc

pub and_right : (a b : Bool) → (a && b) ≡ true → b ≡ true
and_right true b h = h
and_right false b h = cc

-- what a test says
pub below_from : (a b : ℕ) → nat_lt a b ≡ true → a < b
below_from a b h = elim (leb_tells (suc a) b) [ inl t ↦ t.1 | inr t ↦ let bad : true ≡ false = sym h ∙ t.0 in cc ]

pub below_is : (a b : ℕ) → a < b → nat_lt a b ≡ true
below_is a b h = elim (leb_tells (suc a) b) [ inl t ↦ t.0 | inr t ↦ absurd (omega (arith, h, t.1)) ]
