-- Entries by their measurements' numbers, and sums over the measurements before one.
use Rattle.std.proofs.Common.{◌≡◌, ◌≢◌, ℕ, zero, suc, ◌+◌, ◌<◌, ◌≤◌, cond, Bool, true, false, if◌then◌else◌, ◌&&◌, nat_eq, List, [], ◌∷◌, refl, ap, ◌∙◌, subst, inl, inr, arith, sym}
use Rattle.std.specs.List.{sum_by}
use Rattle.std.proofs.lemmas.Bool.{lt-ltb, le-ltb, eq-eqb, ne_eqb}
use Rattle.std.proofs.lemmas.Bool.Decides.{eqb_tells, leb_tells}
use Rattle.std.proofs.lemmas.List.Sums.{sum_by-cons}
use Rattle.slave_channels.specs.AccountLaws.{MeasurementsAddUp}
use Rattle.slave_channels.specs.Accounts.{Entry, before, end_of, more_unsent, of_measurement, sum_before}

pub of-same : (m : ℕ) (e : Entry) (es : List Entry) → e.number ≡ m → of_measurement m (e ∷ es) ≡ e ∷ of_measurement m es
of-same m e es same = ap (λ b. cond b (e ∷ of_measurement m es) (of_measurement m es)) (eq-eqb e.number m same)

pub of-other : (m : ℕ) (e : Entry) (es : List Entry) → e.number ≢ m → of_measurement m (e ∷ es) ≡ of_measurement m es
of-other m e es other = ap (λ b. cond b (e ∷ of_measurement m es) (of_measurement m es)) (ne_eqb e.number m other)

pub before-less : (m : ℕ) (e : Entry) (es : List Entry) → e.number < m → before m (e ∷ es) ≡ e ∷ before m es
before-less m e es less = ap (λ b. cond b (e ∷ before m es) (before m es)) (lt-ltb e.number m less)

pub before-more : (m : ℕ) (e : Entry) (es : List Entry) → m ≤ e.number → before m (e ∷ es) ≡ before m es
before-more m e es more = ap (λ b. cond b (e ∷ before m es) (before m es)) (le-ltb e.number m more)

-- all are before a number that none reaches
pub all-before : (es : List Entry) (n : ℕ) → end_of es ≤ n → before n es ≡ es
all-before [] n less = refl
all-before (e ∷ es) n less = before-less n e es (omega (arith, less)) ∙ ap (λ xs. e ∷ xs) (all-before es n (omega (arith, less)))

pub none-before : (es : List Entry) → before 0 es ≡ []
none-before [] = refl
none-before (e ∷ es) = before-more 0 e es (omega arith) ∙ none-before es

-- none is of a measurement that none reaches
pub none-of : (es : List Entry) (m : ℕ) → end_of es ≤ m → of_measurement m es ≡ []
none-of [] m less = refl
none-of (e ∷ es) m less = of-other m e es (λ same. omega (arith, less, same)) ∙ none-of es m (omega (arith, less))

-- a sum over those before the next number
pub sum-next : (f : Entry → ℕ) (m : ℕ) (es : List Entry) → sum_by f (before (suc m) es) ≡ sum_by f (before m es) + sum_by f (of_measurement m es)
sum-next f m [] = refl
sum-next f m (e ∷ es) =
    elim (leb_tells m e.number) [
      | inl w ↦
          elim (eqb_tells e.number m) [
            | inl v ↦
                let all = ap (sum_by f) (before-less (suc m) e es (omega (arith, v.1))) ∙ sum_by-cons f e (before (suc m) es) in
                let less = ap (sum_by f) (before-more m e es w.1) in
                let same = ap (sum_by f) (of-same m e es v.1) ∙ sum_by-cons f e (of_measurement m es) in
                omega (arith, all, less, same, sum-next f m es)
            | inr v ↦
                let all = ap (sum_by f) (before-more (suc m) e es (omega (arith, w.1, v.1))) in
                let less = ap (sum_by f) (before-more m e es w.1) in
                let same = ap (sum_by f) (of-other m e es v.1) in
                omega (arith, all, less, same, sum-next f m es)
          ]
      | inr w ↦
          let all = ap (sum_by f) (before-less (suc m) e es (omega (arith, w.1))) ∙ sum_by-cons f e (before (suc m) es) in
          let less = ap (sum_by f) (before-less m e es w.1) ∙ sum_by-cons f e (before m es) in
          let same = ap (sum_by f) (of-other m e es (λ same. omega (arith, w.1, same))) in
          omega (arith, all, less, same, sum-next f m es)
    ]

pub measurements-add_up : MeasurementsAddUp
measurements-add_up f entries = (
  all-before entries (end_of entries) (omega arith),
  λ m.
      let same : suc m ≡ m + 1 = omega arith in
      subst (λ n. sum_by f (before n entries) ≡ sum_by f (before m entries) + sum_by f (of_measurement m entries)) same (sum-next f m entries),
)

and_false : (b : Bool) → (b && false) ≡ false
and_false true = refl
and_false false = refl

-- of another list, or of another measurement, it is as it was
pub more-list : (m l n : ℕ) (f : ℕ → ℕ → ℕ) (i k : ℕ) → k ≢ l → more_unsent m l n f i k ≡ f i k
more-list m l n f i k other =
    ap (λ b. if nat_eq i m && b then f i k + n else f i k) (ne_eqb k l other) ∙ ap (λ b. if b then f i k + n else f i k) (and_false (nat_eq i m))

pub more-measurement : (m l n : ℕ) (f : ℕ → ℕ → ℕ) (i k : ℕ) → i ≢ m → more_unsent m l n f i k ≡ f i k
more-measurement m l n f i k other = ap (λ b. if b && nat_eq k l then f i k + n else f i k) (ne_eqb i m other)

pub more-here : (m l n : ℕ) (f : ℕ → ℕ → ℕ) → more_unsent m l n f m l ≡ f m l + n
more-here m l n f =
    ap (λ b. if b && nat_eq l l then f m l + n else f m l) (eq-eqb m m refl) ∙ ap (λ b. if b then f m l + n else f m l) (eq-eqb l l refl)

-- sums of what is the same
pub sum-same : (n : ℕ) (f g : ℕ → ℕ → ℕ) (l : ℕ) → ((m : ℕ) → m < n → f m l ≡ g m l) → sum_before n f l ≡ sum_before n g l
sum-same zero f g l same = refl
sum-same (suc n) f g l same = ap (λ x. x + f n l) (sum-same n f g l (λ m less. same m (omega (arith, less)))) ∙ ap (λ x. sum_before n g l + x) (same n (omega arith))

-- a sum with n more in measurement m
pub sum-more : (k m l n : ℕ) (f : ℕ → ℕ → ℕ) → m < k → sum_before k (more_unsent m l n f) l ≡ sum_before k f l + n
sum-more zero m l n f less = absurd (omega (arith, less))
sum-more (suc k) m l n f less =
    elim (eqb_tells k m) [
      | inl w ↦
          let before_it = sum-same k (more_unsent m l n f) f l (λ i under. more-measurement m l n f i l (λ same. omega (arith, same, under, w.1))) in
          let here = ap (λ x. more_unsent m l n f x l) w.1 ∙ more-here m l n f ∙ ap (λ x. f x l + n) (sym w.1) in
          omega (arith, before_it, here)
      | inr w ↦
          let before_it = sum-more k m l n f (omega (arith, less, w.1)) in
          let here = more-measurement m l n f k l w.1 in
          omega (arith, before_it, here)
    ]
