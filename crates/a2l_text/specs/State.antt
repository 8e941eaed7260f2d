-- How far a text has been read.
use Rattle.std.specs.Prelude.{ℕ, List, drop}

pub record WordsState : Type 0 where
  pub text : List ℕ
  -- where the newest word or fault begins
  pub start : ℕ
  -- how many bytes have been read
  pub next : ℕ

-- what hasn't been read
abbrev pub rest_of : WordsState → List ℕ
rest_of words = drop words.next words.text

-- the text from the newest word or fault on
abbrev pub from_of : WordsState → List ℕ
from_of words = drop words.start words.text
