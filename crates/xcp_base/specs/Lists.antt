-- Sets of DAQ lists: a number stands for the set of the lists whose bits it has.
use Rattle.std.specs.Prelude.{ℕ, Bool, nat_eq}
use Rattle.std.specs.Int.{bit_at}

-- list l is in a set
abbrev pub has_list : ℕ → ℕ → Bool
has_list set l = nat_eq (bit_at set l) 1
