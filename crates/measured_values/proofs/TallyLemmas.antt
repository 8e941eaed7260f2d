-- One value more in a tally.
use Rattle.std.proofs.Common.{◌≡◌, ℕ, suc, ◌+◌, ◌-◌, ◌^◌, min, Bool, true, false, not, List, []}
use Rattle.std.proofs.Common.{◌∷◌, ◌++◌, length, All, Option, Some, None, T, refl, sym, ap, ◌∙◌}
use Rattle.std.proofs.Common.{subst, inl, inr, is_nan, arith}
use Rattle.std.proofs.Common.{T_not}
use Rattle.std.proofs.lemmas.Bool.{cond-false, cond-true}
use Rattle.std.proofs.lemmas.List.Elements.{All-append, All-cons, All-nil, All-same, All-weaker}
use Rattle.std.proofs.lemmas.Float.{T_from_false, T_from_true, le_left, le_of_lt, le_of_not-lt}
use Rattle.std.proofs.lemmas.Float.{le_right, lt_of_le_of_lt, lt_of_lt_of_le, lt_trans}
use Rattle.std.specs.Float.{Float, NotNan, binary64}
use Rattle.std.specs.Float.Ieee.{add, lt}
use Rattle.measured_values.specs.Tallies.{IsAbove, IsBelow, IsBestIfAny, IsBetter, IsFirstBest}
use Rattle.measured_values.specs.Tallies.{IsTally, counted, numbers_of, sum_of}
use Rattle.measured_values.specs.declared.tally.Tally.{Tally}

-- what x beats, since it beats m: whatever doesn't beat m, and whatever m beats
pub record IsOrder (Beats : Float → Float → Type 0) : Type 0 where
  over : (x m y : Float) → NotNan m → NotNan y → Beats x m → ¬ (Beats y m) → Beats x y
  through : (x m y : Float) → Beats x m → Beats m y → Beats x y

not_T : (b : Bool) → ¬ (T b) → T (not b)
not_T true not_so = not_so tt
not_T false not_so = tt

pub below_is_order : IsOrder IsBelow
below_is_order = record {
  over = λ x m y m_is y_is x_m y_m.
      lt_of_lt_of_le x m y x_m (le_of_not-lt y m y_is m_is (not_T (lt y m) y_m));
  through = λ x m y x_m m_y. lt_trans x m y x_m m_y;
}

pub above_is_order : IsOrder IsAbove
above_is_order = record {
  over = λ x m y m_is y_is x_m y_m.
      lt_of_le_of_lt y m x (le_of_not-lt m y m_is y_is (not_T (lt m y) y_m)) x_m;
  through = λ x m y x_m m_y. lt_trans y m x m_y x_m;
}

-- the first number is the best
first : (Beats : Float → Float → Type 0) (x : Float) (values : List Float) → NotNan x
    → All (λ y. ¬ (NotNan y)) values → IsFirstBest Beats (x ∷ values) x
first Beats x values number none = record {
  later = [];
  earlier = values;
  noted = refl;
  number = number;
  before = All-weaker (λ y. ¬ (NotNan y)) (λ y. NotNan y → Beats x y)
      (λ y not_number is_number. absurd (not_number is_number)) values none;
  after = All-nil (λ y. ¬ (Beats y x));
}

-- a value that doesn't beat the best leaves it
behind : (Beats : Float → Float → Type 0) (x m : Float) (values : List Float)
    → IsFirstBest Beats values m → ¬ (Beats x m) → IsFirstBest Beats (x ∷ values) m
behind Beats x m values best beaten = record {
  later = x ∷ best.later;
  earlier = best.earlier;
  noted = ap (λ (vs : List Float). x ∷ vs) best.noted;
  number = best.number;
  before = best.before;
  after = All-cons (λ y. ¬ (Beats y m)) x best.later beaten best.after;
}

-- a number that beats the best beats all before it
ahead : (Beats : Float → Float → Type 0) (order : IsOrder Beats) (x m : Float)
    (values : List Float) → IsFirstBest Beats values m → NotNan x → Beats x m
    → IsFirstBest Beats (x ∷ values) x
ahead Beats order x m values best number beats =
    let P : Float → Type 0 = λ y. NotNan y → Beats x y in
    let later : All P best.later = All-weaker (λ y. ¬ (Beats y m)) P
    (λ y not_beaten is_number. order.over x m y best.number is_number beats not_beaten)
    best.later best.after in
    let earlier : All P best.earlier = All-weaker (λ y. NotNan y → Beats m y) P
    (λ y beaten is_number. order.through x m y beats (beaten is_number))
    best.earlier best.before in
    record {
      later = [];
      earlier = values;
      noted = refl;
      number = number;
      before = All-same P values (best.later ++ m ∷ best.earlier) best.noted
          (All-append P best.later (m ∷ best.earlier) later
          (All-cons P m best.earlier (λ _. beats) earlier));
      after = All-nil (λ y. ¬ (Beats y x));
    }

-- a number more: the better of the best and it
pub better : (Beats : Float → Float → Type 0) (order : IsOrder Beats) (x m : Float)
    (values : List Float) (so_far : Option Float) → IsBestIfAny Beats values so_far → NotNan x
    → IsBetter Beats so_far x m → IsFirstBest Beats (x ∷ values) m
better Beats order x m values None none number is_x =
    subst (IsFirstBest Beats (x ∷ values)) (sym is_x) (first Beats x values number none)
better Beats order x m values (Some best) is_best number (inl (beats, is_x)) =
    subst (IsFirstBest Beats (x ∷ values)) (sym is_x)
    (ahead Beats order x best values is_best number beats)
better Beats order x m values (Some best) is_best number (inr (beaten, is_best_still)) =
    subst (IsFirstBest Beats (x ∷ values)) (sym is_best_still)
    (behind Beats x best values is_best beaten)

-- a NaN more: the best stays
pub kept : (Beats : Float → Float → Type 0) (x : Float) (values : List Float)
    (so_far : Option Float) → IsBestIfAny Beats values so_far → ¬ (NotNan x)
    → ((m : Float) → ¬ (Beats x m)) → IsBestIfAny Beats (x ∷ values) so_far
kept Beats x values None none not_number beats_none =
    All-cons (λ y. ¬ (NotNan y)) x values not_number none
kept Beats x values (Some best) is_best not_number beats_none =
    behind Beats x best values is_best (beats_none best)

-- only a number is below or above another
below_number : (x m : Float) → IsBelow x m → NotNan x
below_number x m below = le_left x m (le_of_lt x m below)

above_number : (x m : Float) → IsAbove x m → NotNan x
above_number x m above = le_right m x (le_of_lt m x above)

counted_more : (n m k : ℕ) → n ≡ counted m → k ≡ min (n + 1) (2 ^ 64 - 1) → k ≡ counted (suc m)
counted_more n m k e more = omega arith

-- a NaN more
pub IsTally-nan : (t : Tally) (x : Float) (values : List Float) (count : ℕ) → IsTally t values
    → is_nan x ≡ true → count ≡ min (t.count + 1) (2 ^ 64 - 1)
    → IsTally (record t { count = count }) (x ∷ values)
IsTally-nan t x values count so_far nan more =
    let same : numbers_of (x ∷ values) ≡ numbers_of values = cond-false _ _ _ (ap not nan) in
    let not_number : ¬ (NotNan x) =
    λ number. T_not (is_nan x) number (T_from_true (is_nan x) nan) in
    record {
      count = counted_more t.count (length values) count so_far.count more;
      numbers = so_far.numbers ∙ ap (λ (ns : List Float). counted (length ns)) (sym same);
      least = kept IsBelow x values t.least so_far.least not_number
          (λ m below. not_number (below_number x m below));
      greatest = kept IsAbove x values t.greatest so_far.greatest not_number
          (λ m above. not_number (above_number x m above));
      sum = so_far.sum ∙ ap sum_of (sym same);
    }

-- a number more
pub IsTally-number : (t : Tally) (x least greatest : Float) (values : List Float)
    (count numbers : ℕ) → IsTally t values → is_nan x ≡ false
    → count ≡ min (t.count + 1) (2 ^ 64 - 1) → numbers ≡ min (t.numbers + 1) (2 ^ 64 - 1)
    → IsBetter IsBelow t.least x least → IsBetter IsAbove t.greatest x greatest
    → IsTally (record {
      count = count;
      numbers = numbers;
      least = Some least;
      greatest = Some greatest;
      sum = add binary64 t.sum x;
    }) (x ∷ values)
IsTally-number t x least greatest values count numbers so_far number more one_more lower higher =
    let same : numbers_of (x ∷ values) ≡ x ∷ numbers_of values = cond-true _ _ _ (ap not number) in
    let is_number : NotNan x = T_from_false (is_nan x) number in
    record {
      count = counted_more t.count (length values) count so_far.count more;
      numbers = counted_more t.numbers (length (numbers_of values)) numbers so_far.numbers one_more
          ∙ ap (λ (ns : List Float). counted (length ns)) (sym same);
      least = better IsBelow below_is_order x least values t.least so_far.least is_number lower;
      greatest = better IsAbove above_is_order x greatest values t.greatest so_far.greatest
          is_number higher;
      sum = ap (λ s. add binary64 s x) so_far.sum ∙ ap sum_of (sym same);
    }
