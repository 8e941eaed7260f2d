-- How many lists are in a set.
use Rattle.std.specs.Prelude.{ℕ, zero, suc, ◌+◌, Bool, true, false}

abbrev pub one_if : Bool → ℕ
one_if true = 1
one_if false = 0

-- how many of the lists below n are in a set
abbrev pub how_many : ℕ → (ℕ → Bool) → ℕ
how_many zero set = 0
how_many (suc n) set = how_many n set + one_if (set n)
