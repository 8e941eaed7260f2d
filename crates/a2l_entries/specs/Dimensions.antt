-- The dimensions of an array (ASAM MCD-2 MC, MATRIX_DIM and ARRAY_SIZE).
use Rattle.std.specs.Prelude.{ℕ, ◌*◌, ◌&&◌, ◌==◌, nat_le, nat_lt, List, [], ◌∷◌}
use Rattle.std.specs.Prelude.{Option, Some, None, if◌then◌else◌}
use Rattle.a2l_text.specs.Tokens.{Token}
use Rattle.a2l_entries.specs.Gives.{◌>>=◌}
use Rattle.a2l_entries.specs.Said.{integer_said}

-- a number that there is, in front of others
abbrev pub in_front : Option ℕ → List ℕ → List ℕ
in_front None others = []
in_front (Some n) others = n ∷ others

-- the whole numbers in front
abbrev pub numbers_said : List Token → List ℕ
numbers_said [] = []
numbers_said (w ∷ ws) = in_front (integer_said w) (numbers_said ws)

-- a dimension in front of others; of none of them, unless it is 1
abbrev pub before_others : ℕ → List ℕ → List ℕ
before_others d [] = if d == 1 then [] else d ∷ []
before_others d (e ∷ es) = d ∷ e ∷ es

-- without the dimensions of 1 at the end
abbrev pub trimmed : List ℕ → List ℕ
trimmed [] = []
trimmed (d ∷ ds) = before_others d (trimmed ds)

abbrev pub dimensions_said : List Token → List ℕ
dimensions_said ws = trimmed (numbers_said ws)

-- the product of two numbers, if it is from 1 to 65,536
abbrev pub count_with : ℕ → ℕ → Option ℕ
count_with count d =
    if nat_lt 0 (count * d) && nat_le (count * d) 65536 then Some (count * d) else None

-- so many elements, in each place along these dimensions
abbrev pub count_from : ℕ → List ℕ → Option ℕ
count_from count [] = Some count
count_from count (d ∷ ds) = count_with count d >>= λ more. count_from more ds

-- the number of the elements of an array, if it is from 1 to 65,536
abbrev pub element_count : List ℕ → Option ℕ
element_count dims = count_from 1 dims
