-- What a word means by a table of keywords.
use Rattle.std.specs.Prelude.{ℕ, List, [], ◌∷◌, bytes_eq, Option, Some, None, if◌then◌else◌}

-- the meaning of the first keyword that the word is
abbrev pub meaning : {A : Type 0} → List (List ℕ × A) → List ℕ → Option A
meaning [] word = None
meaning (row ∷ rows) word =
    if bytes_eq word row.0 then Some row.1 else meaning rows word
