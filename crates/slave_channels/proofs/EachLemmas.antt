-- Lists whose elements change one behind another.
use Rattle.std.proofs.Common.{◌≡◌, ◌≢◌, ◌⊎◌, ℕ, zero, suc, ◌+◌, ◌<◌, ◌≤◌, inl, inr, List, [], ◌∷◌, ◌++◌, length, set, get_or, replicate, Some, refl, sym, ap, subst, ◌∙◌, arith}
use Rattle.std.specs.Prelude.{slice_get}
use Rattle.std.proofs.lemmas.Bool.Decides.{eqb_tells, leb_tells}
use Rattle.std.proofs.lemmas.List.{length-set, replicate-append-replicate}
use Rattle.std.proofs.lemmas.Option.{same_Some, slice_get-get_or, slice_get_read, slice_get_within}
use Rattle.slave_channels.specs.Each.{IsEach, IsOnlyAt}
use Rattle.slave_channels.specs.Inner.{IsFront}

-- an element that was read stands there
pub read_at : {A : Type 0} (xs : List A) (c : ℕ) (x : A) → x ≡ get_or xs c x → c < length xs → slice_get xs c ≡ Some x
read_at xs c x is here = slice_get_read xs (length xs) c x refl here is

-- one more of the same
pub one-more : {A : Type 0} (n : ℕ) (xs ys : List A) (x y : A) → xs ≡ replicate n x → y ≡ x → ys ≡ xs ++ y ∷ [] → ys ≡ replicate (n + 1) x
one-more n xs ys x y all same is =
    is ∙ (ap (λ z. xs ++ z ∷ []) same ∙ (ap (λ zs. zs ++ x ∷ []) all ∙ replicate-append-replicate n 1 x))

lt_or : (k n : ℕ) → (k < n) ⊎ (n ≤ k)
lt_or k n =
    elim (leb_tells (suc k) n) [
      | inl w ↦ inl (omega (arith, w.1))
      | inr w ↦ inr (omega (arith, w.1))
    ]

module _ {A : Type 0} where
  pub get-set_same : (xs : List A) (i : ℕ) (w : A) → i < length xs → slice_get (set xs i w) i ≡ Some w
  get-set_same [] i w h = absurd (omega (arith, h))
  get-set_same (x ∷ xs) zero w h = refl
  get-set_same (x ∷ xs) (suc i) w h = get-set_same xs i w (omega (arith, h))

  pub get-set_other : (xs : List A) (i j : ℕ) (w : A) → j ≢ i → slice_get (set xs i w) j ≡ slice_get xs j
  get-set_other [] i j w h = refl
  get-set_other (x ∷ xs) zero zero w h = absurd (h refl)
  get-set_other (x ∷ xs) zero (suc j) w h = refl
  get-set_other (x ∷ xs) (suc i) zero w h = refl
  get-set_other (x ∷ xs) (suc i) (suc j) w h = get-set_other xs i j w (λ e. h (ap suc e))

  -- what is written back as it was changes nothing
  pub set_back : (xs : List A) (i : ℕ) (old new : A) → old ≡ get_or xs i old → new ≡ old → set xs i new ≡ xs
  set_back [] i old new is same = refl
  set_back (x ∷ xs) zero old new is same = ap (λ y. y ∷ xs) (same ∙ is)
  set_back (x ∷ xs) (suc i) old new is same = ap (λ ys. x ∷ ys) (set_back xs i old new is same)

  only-here : (R : A → A → Type 0) (c : ℕ) (xs : List A) (old new : A) → old ≡ get_or xs c old → c < length xs → R old new → IsOnlyAt R c xs (set xs c new)
  only-here R c xs old new is here one = record {
    as_many = length-set xs c new;
    here = λ a b at now.
        let first : old ≡ a = same_Some old a (sym (read_at xs c old is here) ∙ at) in
        let second : new ≡ b = same_Some new b (sym (get-set_same xs c new here) ∙ now) in
        subst (λ y. R a y) second (subst (λ x. R x new) first one);
    others = λ k other. get-set_other xs c k new other;
  }

  -- only the element that was written back changed
  pub only-set : (R : A → A → Type 0) (c : ℕ) (xs seen : List A) (old new : A) → xs ≡ seen → old ≡ get_or xs c old → c < length seen → R old new → IsOnlyAt R c seen (set xs c new)
  only-set R c xs seen old new same is here one =
      subst (λ ys. IsOnlyAt R c ys (set xs c new)) same (only-here R c xs old new is (subst (λ ys. c < length ys) (sym same) here) one)

  -- nothing changed yet
  pub front-none : (R : ℕ → A → A → Type 0) (xs : List A) → IsFront R 0 xs xs
  front-none R xs = record { as_many = refl; front = λ k a b below at now. absurd (omega (arith, below)); rest = λ k from. refl }

  -- nothing changed yet of what is seen so
  pub front-seen : (R : ℕ → A → A → Type 0) (xs seen : List A) → xs ≡ seen → IsFront R 0 seen xs
  front-seen R xs seen same = subst (λ ys. IsFront R 0 ys xs) same (front-none R xs)

  front-at : (R : ℕ → A → A → Type 0) (c : ℕ) (xs ys : List A) (old new : A) → old ≡ get_or ys c old → c < length ys → IsFront R c xs ys → R c old new
      → (k : ℕ) (a b : A) → k ≡ c → slice_get xs k ≡ Some a → slice_get (set ys c new) k ≡ Some b → R k a b
  front-at R c xs ys old new is here so_far one k a b e at now =
      let at_c : slice_get xs c ≡ Some a = subst (λ j. slice_get xs j ≡ Some a) e at in
      let now_c : slice_get (set ys c new) c ≡ Some b = subst (λ j. slice_get (set ys c new) j ≡ Some b) e now in
      let first : old ≡ a = same_Some old a (sym (read_at ys c old is here) ∙ (so_far.rest c (omega arith) ∙ at_c)) in
      let second : new ≡ b = same_Some new b (sym (get-set_same ys c new here) ∙ now_c) in
      subst (λ j. R j a b) (sym e) (subst (λ y. R c a y) second (subst (λ x. R c x new) first one))

  -- one element more
  pub front-next : (R : ℕ → A → A → Type 0) (c : ℕ) (xs ys : List A) (old new : A) → old ≡ get_or ys c old → c < length ys → IsFront R c xs ys → R c old new → IsFront R (c + 1) xs (set ys c new)
  front-next R c xs ys old new is here so_far one = record {
    as_many = length-set ys c new ∙ so_far.as_many;
    front = λ k a b below at now.
        elim (eqb_tells k c) [
          | inl w ↦ front-at R c xs ys old new is here so_far one k a b w.1 at now
          | inr w ↦ so_far.front k a b (omega (arith, below, w.1)) at (sym (get-set_other ys c k new w.1) ∙ now)
        ];
    rest = λ k from. get-set_other ys c k new (λ e. omega (arith, e, from)) ∙ so_far.rest k (omega (arith, from));
  }

  -- one element more, by a call that changed it alone
  pub front-only : (R : ℕ → A → A → Type 0) (Q : A → A → Type 0) (c : ℕ) (xs ys zs : List A) → ((a b : A) → Q a b → R c a b) → IsFront R c xs ys → IsOnlyAt Q c ys zs → IsFront R (c + 1) xs zs
  front-only R Q c xs ys zs also so_far one = record {
    as_many = one.as_many ∙ so_far.as_many;
    front = λ k a b below at now.
        elim (eqb_tells k c) [
          | inl w ↦
              let at_c : slice_get xs c ≡ Some a = subst (λ j. slice_get xs j ≡ Some a) w.1 at in
              let now_c : slice_get zs c ≡ Some b = subst (λ j. slice_get zs j ≡ Some b) w.1 now in
              subst (λ j. R j a b) (sym w.1) (also a b (one.here a b (so_far.rest c (omega arith) ∙ at_c) now_c))
          | inr w ↦ so_far.front k a b (omega (arith, below, w.1)) at (sym (one.others k w.1) ∙ now)
        ];
    rest = λ k from. one.others k (λ e. omega (arith, e, from)) ∙ so_far.rest k (omega (arith, from));
  }

  -- all elements
  pub front-all : (R : ℕ → A → A → Type 0) (n : ℕ) (xs ys : List A) → IsFront R n xs ys → length xs ≤ n → IsEach R xs ys
  front-all R n xs ys so_far all = record {
    as_many = so_far.as_many;
    each = λ k a b at now. so_far.front k a b (omega (arith, all, slice_get_within xs k a at)) at now;
  }

  pub front-map : (R Q : ℕ → A → A → Type 0) (n : ℕ) (xs ys : List A) → ((k : ℕ) (a b : A) → R k a b → Q k a b) → IsFront R n xs ys → IsFront Q n xs ys
  front-map R Q n xs ys also so_far = record { as_many = so_far.as_many; front = λ k a b below at now. also k a b (so_far.front k a b below at now); rest = so_far.rest }

  -- the first elements changed twice, and the others did not change
  pub front-twice : (R Q P : ℕ → A → A → Type 0) (n : ℕ) (xs ys zs : List A) → ((k : ℕ) (a m b : A) → R k a m → Q k m b → P k a b) → ((k : ℕ) (a : A) → P k a a)
      → IsFront R n xs ys → IsFront Q n ys zs → IsEach P xs zs
  front-twice R Q P n xs ys zs both stays one two = record {
    as_many = two.as_many ∙ one.as_many;
    each = λ k a b at now.
        elim (lt_or k n) [
          | inl below ↦
              let m = get_or ys k a in
              let there : slice_get ys k ≡ Some m = slice_get-get_or ys k a (omega (arith, one.as_many, slice_get_within xs k a at)) in
              both k a m b (one.front k a m below at there) (two.front k m b below there now)
          | inr from ↦
              let same : a ≡ b = same_Some a b (sym at ∙ (sym (one.rest k from) ∙ (sym (two.rest k from) ∙ now))) in
              subst (λ y. P k a y) same (stays k a)
        ];
  }

  -- the first elements changed, and the others did not
  pub front-rest : (P : ℕ → A → A → Type 0) (n : ℕ) (xs ys : List A) → ((k : ℕ) (a : A) → P k a a) → IsFront P n xs ys → IsEach P xs ys
  front-rest P n xs ys stays so_far = record {
    as_many = so_far.as_many;
    each = λ k a b at now.
        elim (lt_or k n) [
          | inl below ↦ so_far.front k a b below at now
          | inr from ↦
              let same : a ≡ b = same_Some a b (sym at ∙ (sym (so_far.rest k from) ∙ now)) in
              subst (λ y. P k a y) same (stays k a)
        ];
  }

  -- each element changed twice
  pub each-twice : (R Q P : ℕ → A → A → Type 0) (xs ys zs : List A) → ((k : ℕ) (a m b : A) → R k a m → Q k m b → P k a b)
      → IsEach R xs ys → IsEach Q ys zs → IsEach P xs zs
  each-twice R Q P xs ys zs both one two = record {
    as_many = two.as_many ∙ one.as_many;
    each = λ k a b at now.
        let m = get_or ys k a in
        let there : slice_get ys k ≡ Some m = slice_get-get_or ys k a (omega (arith, one.as_many, slice_get_within xs k a at)) in
        both k a m b (one.each k a m at there) (two.each k m b there now);
  }
