-- What is kept of the out of a measurement file while it is written.
use Rattle.std.specs.Prelude.{ℕ, List, Option}
use Rattle.mdf_file.specs.Writing.{StaysUnfinished}

-- what was known to be unfinished is known to be so still
abbrev pub KeepsUnfinished : Option (List ℕ) → Option (List ℕ) → Type 0
KeepsUnfinished old new =
    (before : Option (List ℕ)) → StaysUnfinished before old → StaysUnfinished before new
