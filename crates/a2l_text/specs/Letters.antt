-- What stands at a place between two quotes.
use Rattle.std.specs.Prelude.{ℕ, List, [], ◌∷◌, ◌==◌, if◌then◌else◌}
use Rattle.a2l_text.specs.declared.in_text.Letter.{Letter}
use Rattle.a2l_text.specs.declared.in_text.Letter.TheVariants.{Own, Pair, Closing, Backslash}

-- nothing is no letter: it is not asked for
abbrev pub letter_of : List ℕ → Letter
letter_of [] = Closing
letter_of (byte ∷ []) = if byte == 92 then Backslash else (if byte == 34 then Closing else Own)
letter_of (first ∷ second ∷ bytes) =
    if first == 92 then Pair
    else (if first == 34 then (if second == 34 then Pair else Closing) else Own)
