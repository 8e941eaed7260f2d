-- A front of a text that ends at the first place at which what is left passes a test.
use Rattle.std.specs.Prelude.{◌≡◌, ℕ, Bool, true, false, not, List, [], ◌∷◌, ◌++◌, ◌==◌, ◌&&◌}
use Rattle.a2l_text.specs.Kinds.{kind_of, is_plain}

-- the rest passes the test, and what begins at an earlier place, in the bytes before it, doesn't
abbrev pub IsUpTo : (List ℕ → Bool) → List ℕ → List ℕ → Type 0
IsUpTo ends [] rest = ends rest ≡ true
IsUpTo ends (byte ∷ bytes) rest = (ends (byte ∷ (bytes ++ rest)) ≡ false) × IsUpTo ends bytes rest

-- what begins at any place of the bytes doesn't pass the test
abbrev pub NeverEnds : (List ℕ → Bool) → List ℕ → Type 0
NeverEnds ends [] = Unit {0}
NeverEnds ends (byte ∷ bytes) = (ends (byte ∷ bytes) ≡ false) × NeverEnds ends bytes

-- a plain word ends where anything else begins, or with the text
unfoldable pub ends_plain : List ℕ → Bool
ends_plain bytes = not (is_plain (kind_of bytes))

-- a comment of one line ends before the line feed, or with the text
abbrev pub ends_line : List ℕ → Bool
ends_line [] = true
ends_line (byte ∷ bytes) = byte == 10

-- other comments end at */
abbrev pub ends_block : List ℕ → Bool
ends_block [] = false
ends_block (star ∷ []) = false
ends_block (star ∷ slash ∷ bytes) = star == 42 && slash == 47
