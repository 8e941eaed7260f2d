-- How many lists are in a set, and the places that orders about them take.
use Rattle.std.proofs.Common.{◌≡◌, ◌≢◌, ℕ, zero, suc, ◌+◌, ◌<◌, ◌≤◌, Bool, true, false, ◌&&◌, ◌||◌, not, nat_eq, refl, sym, ap, ◌∙◌, subst, inl, inr, arith}
use Rattle.std.proofs.Math.Dec.{leb}
use Rattle.std.proofs.lemmas.Bool.{false≢true, le-leb, leb-true, true≢false}
use Rattle.std.proofs.lemmas.Bool.Decides.{eqb_tells}
use Rattle.xcp_base.specs.declared.limits.TheConstants.{MAX_LISTS}
use Rattle.xcp_base.specs.Lists.{has_list}
use Rattle.tasks.specs.Links.{without}
use Rattle.xcp_base.specs.declared.limits.TheConstants.{MAX_CONTROL_RING}
use Rattle.xcp_base.specs.Counts.{how_many, one_if}
use Rattle.tasks.specs.Needs.{places_for}

or_false : (b : Bool) → (b || false) ≡ b
or_false true = refl
or_false false = refl

or_true : (b : Bool) → (b || true) ≡ true
or_true true = refl
or_true false = refl

and_true : (b : Bool) → (b && true) ≡ b
and_true true = refl
and_true false = refl

and_false : (b : Bool) → (b && false) ≡ false
and_false true = refl
and_false false = refl

or_left : (a b : Bool) → a ≡ true → (a || b) ≡ true
or_left true b is = refl
or_left false b is = absurd (false≢true is)

or_right : (a b : Bool) → b ≡ true → (a || b) ≡ true
or_right a b is = ap (λ c. a || c) is ∙ or_true a

apart : (l k : ℕ) → l ≢ k → nat_eq l k ≡ false
apart l k different =
    elim (eqb_tells l k) [
      | inl w ↦ absurd (different w.1)
      | inr w ↦ w.0
    ]

pub how_many-same : (n : ℕ) (p q : ℕ → Bool) → ((k : ℕ) → k < n → p k ≡ q k) → how_many n p ≡ how_many n q
how_many-same zero p q same = refl
how_many-same (suc n) p q same =
    let rest = how_many-same n p q (λ k h. same k (omega (arith, h))) in
    let here : one_if (p n) ≡ one_if (q n) = ap one_if (same n (omega arith)) in
    omega (arith, rest, here)

one_if-le : (b : Bool) → one_if b ≤ 1
one_if-le true = omega arith
one_if-le false = omega arith

pub how_many-le : (n : ℕ) (p : ℕ → Bool) → how_many n p ≤ n
how_many-le zero p = omega arith
how_many-le (suc n) p = omega (arith, how_many-le n p, one_if-le (p n))

one_if-less : (a b : Bool) → (a ≡ true → b ≡ true) → one_if a ≤ one_if b
one_if-less true b more = let here : one_if b ≡ 1 = ap one_if (more refl) in omega (arith, here)
one_if-less false b more = omega arith

-- a set that has the lists of another has as many at least
pub how_many-less : (n : ℕ) (p q : ℕ → Bool) → ((k : ℕ) → k < n → p k ≡ true → q k ≡ true) → how_many n p ≤ how_many n q
how_many-less zero p q more = omega arith
how_many-less (suc n) p q more =
    omega (arith, how_many-less n p q (λ k h. more k (omega (arith, h))), one_if-less (p n) (q n) (more n (omega arith)))

-- a list less
pub how_many-without : (n l : ℕ) (p q : ℕ → Bool) → l < n → p l ≡ true
    → ((k : ℕ) → k < n → q k ≡ (p k && not (nat_eq l k))) → how_many n p ≡ suc (how_many n q)
how_many-without zero l p q below there same = absurd (omega (arith, below))
how_many-without (suc n) l p q below there same =
    elim (eqb_tells l n) [
      | inl w ↦
          let rest : how_many n q ≡ how_many n p
          = how_many-same n q p (λ k h. same k (omega (arith, h)) ∙ ap (λ b. p k && not b) (apart l k (λ e. omega (arith, h, e, w.1))) ∙ and_true (p k)) in
          let here : one_if (q n) ≡ 0 = ap one_if (same n (omega arith) ∙ ap (λ b. p n && not b) w.0 ∙ and_false (p n)) in
          let was : one_if (p n) ≡ 1 = ap one_if (subst (λ k. p k ≡ true) w.1 there) in
          omega (arith, rest, here, was)
      | inr w ↦
          let rest = how_many-without n l p q (omega (arith, below, w.1)) there (λ k h. same k (omega (arith, h))) in
          let here : one_if (q n) ≡ one_if (p n) = ap one_if (same n (omega arith) ∙ ap (λ b. p n && not b) w.0 ∙ and_true (p n)) in
          omega (arith, rest, here)
    ]

-- two sets need the places that equal ones need
pub places-same : (p q lists : ℕ → Bool) → ((k : ℕ) → k < MAX_LISTS → p k ≡ q k) → places_for p lists ≡ places_for q lists
places-same p q lists same =
    let all : how_many MAX_LISTS (λ l. p l || lists l) ≡ how_many MAX_LISTS (λ l. q l || lists l)
    = how_many-same MAX_LISTS (λ l. p l || lists l) (λ l. q l || lists l) (λ k h. ap (λ b. b || lists k) (same k h)) in
    omega (arith, all)

-- a test tells whether as many places are free
pub test-fits : (needed places room free : ℕ) → needed ≡ places → room ≡ free → leb needed room ≡ true → places ≤ free
test-fits needed places room free needs has is = omega (arith, needs, has, leb-true needed room is)

pub test-misses : (needed places room free : ℕ) → needed ≡ places → room ≡ free → leb needed room ≡ false → places ≤ free → ⊥
test-misses needed places room free needs has is fits =
    true≢false (sym (le-leb needed room (omega (arith, needs, has, fits))) ∙ is)

-- once a list was started, the stops of those that run find places
pub start-leaves : (run now lists : ℕ → Bool) (l free left : ℕ) → l < MAX_LISTS → lists l ≡ true
    → free ≡ left + 1 → ((k : ℕ) → k < MAX_LISTS → now k ≡ (run k || nat_eq l k))
    → places_for run lists ≤ free → 1 + how_many MAX_LISTS now ≤ left
start-leaves run now lists l free left below there spent more fits =
    let one = how_many-without MAX_LISTS l lists (without l lists) below there (λ k h. refl) in
    let all : how_many MAX_LISTS now ≤ how_many MAX_LISTS (λ k. run k || lists k)
    = how_many-less MAX_LISTS now (λ k. run k || lists k) (λ k h is.
    elim (eqb_tells l k) [
      | inl w ↦ or_right (run k) (lists k) (subst (λ j. lists j ≡ true) w.1 there)
      | inr w ↦ or_left (run k) (lists k) (sym (more k h ∙ ap (λ b. run k || b) w.0 ∙ or_false (run k)) ∙ is)
    ]) in
    omega (arith, one, all, spent, fits)

behind-start : (r s : Bool) → ((r || false) || (s && true)) ≡ (r || s)
behind-start true s = refl
behind-start false true = refl
behind-start false false = refl

-- and the other lists that were checked with it still can be started
pub start-others : (run now lists : ℕ → Bool) (l free left : ℕ) → l < MAX_LISTS → lists l ≡ true
    → free ≡ left + 1 → ((k : ℕ) → k < MAX_LISTS → now k ≡ (run k || nat_eq l k))
    → places_for run lists ≤ free → places_for now (without l lists) ≤ left
start-others run now lists l free left below there spent more fits =
    let one = how_many-without MAX_LISTS l lists (without l lists) below there (λ k h. refl) in
    let all : how_many MAX_LISTS (λ k. now k || without l lists k) ≡ how_many MAX_LISTS (λ k. run k || lists k)
    = how_many-same MAX_LISTS (λ k. now k || without l lists k) (λ k. run k || lists k) (λ k h.
    ap (λ b. b || without l lists k) (more k h)
    ∙ elim (eqb_tells l k) [
      | inl w ↦
          or_left (run k || nat_eq l k) (without l lists k) (or_right (run k) (nat_eq l k) w.0)
          ∙ sym (or_right (run k) (lists k) (subst (λ j. lists j ≡ true) w.1 there))
      | inr w ↦
          ap (λ b. (run k || b) || (lists k && not b)) w.0 ∙ behind-start (run k) (lists k)
    ]) in
    omega (arith, one, all, spent, fits)

-- once a list that ran was stopped, the stops of those that run find places
pub stop-leaves : (run now : ℕ → Bool) (l free left : ℕ) → l < MAX_LISTS → run l ≡ true
    → free ≡ left + 1 → ((k : ℕ) → k < MAX_LISTS → now k ≡ (run k && not (nat_eq l k)))
    → 1 + how_many MAX_LISTS run ≤ free → 1 + how_many MAX_LISTS now ≤ left
stop-leaves run now l free left below there spent less fits =
    let one = how_many-without MAX_LISTS l run now below there less in
    omega (arith, one, spent, fits)

-- at the beginning there are places for all stops
pub places-begin : (set free : ℕ) → free ≡ MAX_CONTROL_RING + 1 → 1 + how_many MAX_LISTS (has_list set) ≤ free
places-begin set free is =
    let few = how_many-le MAX_LISTS (has_list set) in
    omega (arith, is, few)
