-- The least, the greatest, the first and the last of the values of two lists together.
use Rattle.std.proofs.Common.{◌≡◌, ◌≤◌, Bool, true, false, List, [], ◌∷◌, length, Option, Some, None, refl, sym, ap, ◌⊎◌, inl, inr, arith}
use lib.Ieee.{is_nan}
use Rattle.std.specs.Prelude.{All, Contains, if◌then◌else◌, nat_lt}
use Rattle.std.specs.List.{Any}
use Rattle.std.specs.Float.{Float, nan, inf, fin, ◌≤ᶠ◌, NotNan, float_is_finite}
use Rattle.std.specs.Float.Ieee.{lt}
use Rattle.std.proofs.lemmas.Bool.{cases_Bool, ltb-false, ltb-true, true≢false}
use Rattle.std.proofs.lemmas.Float.{T_from_false, T_from_true, le_left, le_of_lt, le_of_not-lt, le_refl, le_right, le_trans}
use Rattle.std.proofs.lemmas.List.Elements.{All-cons, All-contains, All-head, All-nil, All-same, All-weaker}
use Rattle.curve_picture.specs.declared.point.Point.{Point}
use Rattle.curve_picture.specs.declared.stretch.Stretch.{Stretch}
use Rattle.curve_picture.specs.Curves.{IsKept, IsPoint, IsStretchOf}
use Rattle.curve_picture.specs.Inner.{earlier, greater, joined, joined_curve, later, lesser, stretch_of}
use Rattle.curve_picture.specs.Values.{Seen}

-- the values of two lists are those of a third
pub record Mixes (a b c : List Seen) : Type 0 where
  pub left : All (Contains c) a
  pub right : All (Contains c) b
  pub no_more : All (λ s. Contains a s ⊎ Contains b s) c

pub flipped : (a b c : List Seen) → Mixes a b c → Mixes b a c
flipped a b c m = record {
  left = m.right;
  right = m.left;
  no_more =
      All-weaker (λ (s : Seen). Contains a s ⊎ Contains b s) (λ (s : Seen). Contains b s ⊎ Contains a s)
      (λ s h. elim h [ inl l ↦ inr l | inr r ↦ inl r ]) c m.no_more;
}

-- what one of them has, and what all have
some_in : (P : Seen → Type 0) (a c : List Seen) → All (Contains c) a → Any P a → Any P c
some_in P a c inside h =
    let there : Contains c h.1 = All-contains (Contains c) a h.1 inside (h.0, h.2, h.3) in
    (there.0, h.1, there.1, there.2, h.4)

chosen_in : {X : Type 0} (Q : X → Seen → Type 0) (a b c : List Seen) → Mixes a b c → (t : Bool) (x y : X)
    → Any (Q x) a → Any (Q y) b → Any (Q (if t then y else x)) c
chosen_in Q a b c m true x y p q = some_in (Q y) b c m.right q
chosen_in Q a b c m false x y p q = some_in (Q x) a c m.left p

all_in : (P : Seen → Type 0) (a b c : List Seen) → Mixes a b c → All P a → All P b → All P c
all_in P a b c m p q =
    All-weaker (λ (s : Seen). Contains a s ⊎ Contains b s) P
    (λ s h. elim h [ inl l ↦ All-contains P a s p l | inr r ↦ All-contains P b s q r ]) c m.no_more

none_in : (a b c : List Seen) → Mixes a b c → a ≡ [] → b ≡ [] → c ≡ []
none_in a b [] m e f = refl
none_in a b (s ∷ c) m e f =
    elim (All-head (λ (t : Seen). Contains a t ⊎ Contains b t) s c m.no_more) [
      | inl l ↦ let none : length a ≡ 0 = ap length e in absurd (omega (arith, l.1))
      | inr r ↦ let none : length b ≡ 0 = ap length f in absurd (omega (arith, r.1))
    ]

-- numbers in order
finite_number : (x : Float) → float_is_finite x ≡ true → NotNan x
unfolding float_is_finite is_nan
finite_number nan h = absurd (true≢false (sym h))
finite_number (inf s) h = tt
finite_number (fin s m e) h = tt

least_number : (x : Float) (a : List Seen) → Any (λ s. s.value ≡ x) a → All (λ s. x ≤ᶠ s.value) a → NotNan x
least_number x a some all =
    le_left x some.1.value (All-contains (λ (s : Seen). x ≤ᶠ s.value) a some.1 all (some.0, some.2, some.3))

greatest_number : (x : Float) (a : List Seen) → Any (λ s. s.value ≡ x) a → All (λ s. s.value ≤ᶠ x) a → NotNan x
greatest_number x a some all =
    le_right some.1.value x (All-contains (λ (s : Seen). s.value ≤ᶠ x) a some.1 all (some.0, some.2, some.3))

lesser_left : (x y : Float) → NotNan x → lesser x y ≤ᶠ x
lesser_left x y nx = elim (cases_Bool (lt y x)) [
  | inl e ↦ rw e (le_of_lt y x (T_from_true (lt y x) e))
  | inr e ↦ rw e (le_refl x nx)
]

lesser_right : (x y : Float) → NotNan x → NotNan y → lesser x y ≤ᶠ y
lesser_right x y nx ny = elim (cases_Bool (lt y x)) [
  | inl e ↦ rw e (le_refl y ny)
  | inr e ↦ rw e (le_of_not-lt y x ny nx (T_from_false (lt y x) e))
]

greater_left : (x y : Float) → NotNan x → x ≤ᶠ greater x y
greater_left x y nx = elim (cases_Bool (lt x y)) [
  | inl e ↦ rw e (le_of_lt x y (T_from_true (lt x y) e))
  | inr e ↦ rw e (le_refl x nx)
]

greater_right : (x y : Float) → NotNan x → NotNan y → y ≤ᶠ greater x y
greater_right x y nx ny = elim (cases_Bool (lt x y)) [
  | inl e ↦ rw e (le_refl y ny)
  | inr e ↦ rw e (le_of_not-lt x y nx ny (T_from_false (lt x y) e))
]

earlier_left : (p q : Point) → (earlier p q).at ≤ p.at
earlier_left p q = elim (cases_Bool (nat_lt q.at p.at)) [
  | inl e ↦ rw e (omega (arith, ltb-true q.at p.at e))
  | inr e ↦ rw e (omega arith)
]

earlier_right : (p q : Point) → (earlier p q).at ≤ q.at
earlier_right p q = elim (cases_Bool (nat_lt q.at p.at)) [
  | inl e ↦ rw e (omega arith)
  | inr e ↦ rw e (ltb-false q.at p.at e)
]

later_left : (p q : Point) → p.at ≤ (later p q).at
later_left p q = elim (cases_Bool (nat_lt p.at q.at)) [
  | inl e ↦ rw e (omega (arith, ltb-true p.at q.at e))
  | inr e ↦ rw e (omega arith)
]

later_right : (p q : Point) → q.at ≤ (later p q).at
later_right p q = elim (cases_Bool (nat_lt p.at q.at)) [
  | inl e ↦ rw e (omega arith)
  | inr e ↦ rw e (ltb-false p.at q.at e)
]

-- two stretches together are that of the values of both
joined_stands : (x y : Stretch) (a b c : List Seen) → Mixes a b c → IsStretchOf x a → IsStretchOf y b → IsStretchOf (joined x y) c
joined_stands x y a b c m p q =
    let low_x : NotNan x.least = least_number x.least a p.least p.none_below in
    let low_y : NotNan y.least = least_number y.least b q.least q.none_below in
    let high_x : NotNan x.greatest = greatest_number x.greatest a p.greatest p.none_above in
    let high_y : NotNan y.greatest = greatest_number y.greatest b q.greatest q.none_above in
    let low : Float = lesser x.least y.least in
    let high : Float = greater x.greatest y.greatest in
    let front : Point = earlier x.first y.first in
    let back : Point = later x.last y.last in
    record {
      least = chosen_in (λ (v : Float) (s : Seen). s.value ≡ v) a b c m (lt y.least x.least) x.least y.least p.least q.least;
      none_below =
          all_in (λ s. low ≤ᶠ s.value) a b c m
          (All-weaker (λ (s : Seen). x.least ≤ᶠ s.value) (λ (s : Seen). low ≤ᶠ s.value)
          (λ s h. le_trans low x.least s.value (lesser_left x.least y.least low_x) h) a p.none_below)
          (All-weaker (λ (s : Seen). y.least ≤ᶠ s.value) (λ (s : Seen). low ≤ᶠ s.value)
          (λ s h. le_trans low y.least s.value (lesser_right x.least y.least low_x low_y) h) b q.none_below);
      greatest = chosen_in (λ (v : Float) (s : Seen). s.value ≡ v) a b c m (lt x.greatest y.greatest) x.greatest y.greatest p.greatest q.greatest;
      none_above =
          all_in (λ s. s.value ≤ᶠ high) a b c m
          (All-weaker (λ (s : Seen). s.value ≤ᶠ x.greatest) (λ (s : Seen). s.value ≤ᶠ high)
          (λ s h. le_trans s.value x.greatest high h (greater_left x.greatest y.greatest high_x)) a p.none_above)
          (All-weaker (λ (s : Seen). s.value ≤ᶠ y.greatest) (λ (s : Seen). s.value ≤ᶠ high)
          (λ s h. le_trans s.value y.greatest high h (greater_right x.greatest y.greatest high_x high_y)) b q.none_above);
      first = chosen_in IsPoint a b c m (nat_lt y.first.at x.first.at) x.first y.first p.first q.first;
      none_before =
          all_in (λ s. front.at ≤ s.at) a b c m
          (All-weaker (λ (s : Seen). x.first.at ≤ s.at) (λ (s : Seen). front.at ≤ s.at)
          (λ s h. let near : front.at ≤ x.first.at = earlier_left x.first y.first in omega (arith, near, h)) a p.none_before)
          (All-weaker (λ (s : Seen). y.first.at ≤ s.at) (λ (s : Seen). front.at ≤ s.at)
          (λ s h. let near : front.at ≤ y.first.at = earlier_right x.first y.first in omega (arith, near, h)) b q.none_before);
      last = chosen_in IsPoint a b c m (nat_lt x.last.at y.last.at) x.last y.last p.last q.last;
      none_behind =
          all_in (λ s. s.at ≤ back.at) a b c m
          (All-weaker (λ (s : Seen). s.at ≤ x.last.at) (λ (s : Seen). s.at ≤ back.at)
          (λ s h. let near : x.last.at ≤ back.at = later_left x.last y.last in omega (arith, near, h)) a p.none_behind)
          (All-weaker (λ (s : Seen). s.at ≤ y.last.at) (λ (s : Seen). s.at ≤ back.at)
          (λ s h. let near : y.last.at ≤ back.at = later_right x.last y.last in omega (arith, near, h)) b q.none_behind);
    }

-- beside a list of no value
alone_stands : (y : Stretch) (a b c : List Seen) → Mixes a b c → a ≡ [] → IsStretchOf y b → IsStretchOf y c
alone_stands y a b c m e q = record {
  least = some_in (λ s. s.value ≡ y.least) b c m.right q.least;
  none_below = beside (λ s. y.least ≤ᶠ s.value) q.none_below;
  greatest = some_in (λ s. s.value ≡ y.greatest) b c m.right q.greatest;
  none_above = beside (λ s. s.value ≤ᶠ y.greatest) q.none_above;
  first = some_in (IsPoint y.first) b c m.right q.first;
  none_before = beside (λ s. y.first.at ≤ s.at) q.none_before;
  last = some_in (IsPoint y.last) b c m.right q.last;
  none_behind = beside (λ s. s.at ≤ y.last.at) q.none_behind;
}
  where
    beside : (P : Seen → Type 0) → All P b → All P c
    beside P h = all_in P a b c m (All-same P a [] e (All-nil P)) h

pub joined_kept : (x y : Option Stretch) (a b c : List Seen) → Mixes a b c → IsKept x a → IsKept y b → IsKept (joined_curve x y) c
joined_kept None None a b c m p q = none_in a b c m p q
joined_kept None (Some y) a b c m p q = alone_stands y a b c m p q
joined_kept (Some x) None a b c m p q = alone_stands x b a c (flipped a b c m) q p
joined_kept (Some x) (Some y) a b c m p q = joined_stands x y a b c m p q

-- the stretch of one value
one_of : (P : Seen → Type 0) (s : Seen) → P s → Any P (s ∷ [])
one_of P s h = (0, s, omega arith, refl, h)

all_of : (P : Seen → Type 0) (s : Seen) → P s → All P (s ∷ [])
all_of P s h = All-cons P s [] h (All-nil P)

pub one_stands : (p : Point) (s : Seen) → s.at ≡ p.at → s.value ≡ p.value → float_is_finite p.value ≡ true
    → IsStretchOf (stretch_of p) (s ∷ [])
one_stands p s at value finite =
    let same : p.value ≤ᶠ p.value = le_refl p.value (finite_number p.value finite) in record {
      least = one_of (λ s. s.value ≡ p.value) s value;
      none_below = all_of (λ s. p.value ≤ᶠ s.value) s (rw value same);
      greatest = one_of (λ s. s.value ≡ p.value) s value;
      none_above = all_of (λ s. s.value ≤ᶠ p.value) s (rw value same);
      first = one_of (IsPoint p) s (at, value);
      none_before = all_of (λ s. p.at ≤ s.at) s (omega (arith, at));
      last = one_of (IsPoint p) s (at, value);
      none_behind = all_of (λ s. s.at ≤ p.at) s (omega (arith, at));
    }
