-- A text is gap, word, gap, word and so on.
use Rattle.std.specs.Prelude.{ℕ, List, [], ◌∷◌, ◌++◌, nat_eq, drop, if◌then◌else◌}
use Rattle.std.specs.List.{starts_with}
use Rattle.a2l_text.specs.Gaps.{Skips}
use Rattle.a2l_text.specs.Tokens.{Token, spelling, IsWord}

-- the text is a gap, the word and then the rest
pub record Leads (text : List ℕ) (word : Token) (rest : List ℕ) : Type 0 where
  pub gap : Skips text (spelling word ++ rest)
  pub valid : IsWord word rest

-- the text has no word
abbrev pub Ends : List ℕ → Type 0
Ends text = Skips text []

-- these are all words of the text, in their order
abbrev pub AreWords : List ℕ → List Token → Type 0
AreWords text [] = Ends text
AreWords text (word ∷ words) = (rest : List ℕ) × Leads text word rest × AreWords rest words

-- the byte order mark of UTF-8
abbrev pub mark : List ℕ
mark = 0xef ∷ 0xbb ∷ 0xbf ∷ []

-- a text without the mark at its front
abbrev pub without_mark : List ℕ → List ℕ
without_mark text = if starts_with nat_eq text mark then drop 3 text else text
