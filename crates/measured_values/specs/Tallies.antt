-- What there is of the values that were noted, newest first.
use Rattle.std.specs.Prelude.{◌≡◌, ◌⊎◌, ◌==◌, ℕ, ◌-◌, ◌^◌, if◌then◌else◌, not, min, pos}
use Rattle.std.specs.Prelude.{List, [], ◌∷◌, ◌++◌, length, All, filter, is_nan}
use Rattle.std.specs.Prelude.{Option, Some, None, MatchOption}
use Rattle.std.specs.Float.{Float, NotNan, ◌<ᶠ◌, binary64, float_zero}
use Rattle.std.specs.Float.Ieee.{add, div, of_int}
use Rattle.measured_values.specs.declared.tally.Tally.{Tally}

-- the values that are numbers
abbrev pub numbers_of : List Float → List Float
numbers_of values = filter (λ x. not (is_nan x)) values

-- a count, up to the greatest of 64 bits
abbrev pub counted : ℕ → ℕ
counted n = min n (2 ^ 64 - 1)

-- the sum of numbers, in the order in which they were noted
abbrev pub sum_of : List Float → Float
sum_of [] = float_zero
sum_of (x ∷ earlier) = add binary64 (sum_of earlier) x

-- the mean of the values that are numbers, if there are any
abbrev pub mean_of : List Float → Option Float
mean_of values =
    let count = counted (length (numbers_of values)) in
    if count == 0 then None
    else Some (div binary64 (sum_of (numbers_of values)) (of_int binary64 (pos count)))

-- a number below another, and above it
abbrev pub IsBelow : Float → Float → Type 0
IsBelow x y = x <ᶠ y

abbrev pub IsAbove : Float → Float → Type 0
IsAbove x y = y <ᶠ x

-- A number among the values: it beats each number that was noted before it, and none that was
-- noted after it beats it. So it is the first of those that compare equal.
pub record IsFirstBest (Beats : Float → Float → Type 0) (values : List Float) (best : Float) :
    Type 0 where
  pub later : List Float
  pub earlier : List Float
  pub noted : values ≡ later ++ best ∷ earlier
  pub number : NotNan best
  pub before : All (λ x. NotNan x → Beats best x) earlier
  pub after : All (λ x. ¬ (Beats x best)) later

-- the first best of the values, or nothing if none is a number
abbrev pub IsBestIfAny : (Float → Float → Type 0) → List Float → Option Float → Type 0
IsBestIfAny Beats values best =
    MatchOption best (All (λ x. ¬ (NotNan x)) values) (IsFirstBest Beats values)

-- a tally is that of these values
pub record IsTally (tally : Tally) (values : List Float) : Type 0 where
  pub count : tally.count ≡ counted (length values)
  pub numbers : tally.numbers ≡ counted (length (numbers_of values))
  pub least : IsBestIfAny IsBelow values tally.least
  pub greatest : IsBestIfAny IsAbove values tally.greatest
  pub sum : tally.sum ≡ sum_of (numbers_of values)

-- the better of the best so far, if there is one, and another number; the first, if the other
-- doesn't beat it
abbrev pub IsBetter : (Float → Float → Type 0) → Option Float → Float → Float → Type 0
IsBetter Beats None x better = better ≡ x
IsBetter Beats (Some best) x better =
    (Beats x best × (better ≡ x)) ⊎ (¬ (Beats x best) × (better ≡ best))
