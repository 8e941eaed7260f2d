-- Lists without some of their items, one behind another.
use Rattle.std.proofs.Common.{◌≡◌, ℕ, suc, ◌+◌, Bool, true, false, if◌then◌else◌, List, [], ◌∷◌, ◌++◌, append-nil, length, filter, refl, sym, ap, subst, arith, inl, inr}
use Rattle.slave_outbox.specs.Outboxes.{Laid, packets_in}
use Rattle.slave.specs.Thinned.{IsWithout}

pub assoc : {X : Type 0} (a b c : List X) → (a ++ b) ++ c ≡ a ++ (b ++ c)
assoc [] b c = refl
assoc (x ∷ a) b c = ap (λ xs. x ∷ xs) (assoc a b c)

module _ {X : Type 0} where
  pub without-append : (n m : ℕ) (xs ys us vs : List X) → IsWithout n xs ys → IsWithout m us vs → IsWithout (n + m) (xs ++ us) (ys ++ vs)
  without-append n m [] ys us vs one two =
      let same : m ≡ n + m = omega (arith, one.0) in
      subst (λ zs. IsWithout (n + m) us (zs ++ vs)) (sym one.1) (subst (λ k. IsWithout k us vs) same two)
  without-append n m (x ∷ xs) ys us vs (inl w) two =
      inl (w.0 ++ vs, ap (λ zs. zs ++ vs) w.1, without-append n m xs w.0 us vs w.2 two)
  without-append n m (x ∷ xs) ys us vs (inr w) two =
      inr (w.0 + m, omega (arith, w.1), without-append w.0 m xs ys us vs w.2 two)

  -- none of them
  pub without-none : (xs : List X) → IsWithout 0 xs xs
  without-none [] = (refl, refl)
  without-none (x ∷ xs) = inl (xs, refl, without-none xs)

  -- all of them
  pub without-all : (xs : List X) → IsWithout (length xs) xs []
  without-all [] = (refl, refl)
  without-all (x ∷ xs) = inr (length xs, refl, without-all xs)

  -- with the same behind both
  pub without-same : (n : ℕ) (xs ys more : List X) → IsWithout n xs ys → IsWithout n (xs ++ more) (ys ++ more)
  without-same n xs ys more one =
      let none : n + 0 ≡ n = omega arith in
      subst (λ k. IsWithout k (xs ++ more) (ys ++ more)) none (without-append n 0 xs ys more more one (without-none more))

  -- without all that stands behind
  pub without-behind : (n : ℕ) (xs ys more : List X) → IsWithout n xs ys → IsWithout (n + length more) (xs ++ more) ys
  without-behind n xs ys more one =
      subst (λ zs. IsWithout (n + length more) (xs ++ more) zs) (append-nil ys) (without-append n (length more) xs ys more [] one (without-all more))

  -- of those that pass a test
  pub without-filter : (test : X → Bool) (n : ℕ) (xs ys : List X) → IsWithout n xs ys → (m : ℕ) × IsWithout m (filter test xs) (filter test ys)
  without-filter test n [] ys one = (0, (refl, ap (filter test) one.1))
  without-filter test n (x ∷ xs) ys (inl w) =
      let (m, rest) = without-filter test n xs w.0 w.2 in
      (m, subst (λ zs. IsWithout m (filter test (x ∷ xs)) (filter test zs)) (sym w.1) (by (test x) m (filter test xs) (filter test w.0) rest)) where
        by : (b : Bool) (m : ℕ) (us vs : List X) → IsWithout m us vs → IsWithout m (if b then x ∷ us else us) (if b then x ∷ vs else vs)
        by true m us vs are = inl (vs, refl, are)
        by false m us vs are = are
  without-filter test n (x ∷ xs) ys (inr w) =
      let (m, rest) = without-filter test w.0 xs ys w.2 in
      by (test x) m (filter test xs) rest where
        by : (b : Bool) (m : ℕ) (us : List X) → IsWithout m us (filter test ys) → (k : ℕ) × IsWithout k (if b then x ∷ us else us) (filter test ys)
        by true m us are = (suc m, inr (m, refl, are))
        by false m us are = (m, are)

-- of the packets of some
pub without-packets : (n : ℕ) (xs ys : List Laid) → IsWithout n xs ys → IsWithout n (packets_in xs) (packets_in ys)
without-packets n [] ys one = (one.0, ap packets_in one.1)
without-packets n (x ∷ xs) ys (inl w) = inl (packets_in w.0, ap packets_in w.1, without-packets n xs w.0 w.2)
without-packets n (x ∷ xs) ys (inr w) = inr (w.0, w.1, without-packets w.0 xs ys w.2)
