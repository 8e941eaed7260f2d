-- What may stand between two words of an A2L text: blanks and comments.
use Rattle.std.specs.Prelude.{◌≡◌, ℕ, true, List, [], ◌∷◌, ◌++◌, flat_map}
use Rattle.a2l_text.specs.Kinds.{is_blank}
use Rattle.a2l_text.specs.Fronts.{IsUpTo, ends_line, ends_block}

pub data Piece : Type 0 where
  blank : (byte : ℕ) → Piece
  -- from // up to the line feed or the end of the text
  line_comment : (bytes : List ℕ) → Piece
  -- from /* to the first */ behind it
  block_comment : (bytes : List ℕ) → Piece

abbrev pub piece_bytes : Piece → List ℕ
piece_bytes (blank byte) = byte ∷ []
piece_bytes (line_comment bytes) = 47 ∷ 47 ∷ bytes
piece_bytes (block_comment bytes) = 47 ∷ 42 ∷ (bytes ++ 42 ∷ 47 ∷ [])

-- a piece stands before the rest of a text
abbrev pub IsPiece : Piece → List ℕ → Type 0
IsPiece (blank byte) rest = is_blank byte ≡ true
IsPiece (line_comment bytes) rest = IsUpTo ends_line bytes rest
IsPiece (block_comment bytes) rest = IsUpTo ends_block bytes (42 ∷ 47 ∷ rest)

abbrev pub gap_bytes : List Piece → List ℕ
gap_bytes pieces = flat_map piece_bytes pieces

-- the pieces stand one after another before the rest of a text
abbrev pub AreGap : List Piece → List ℕ → Type 0
AreGap [] rest = Unit {0}
AreGap (piece ∷ pieces) rest = IsPiece piece (gap_bytes pieces ++ rest) × AreGap pieces rest

-- the text is a gap, which may be empty, and then the rest
pub record Skips (text rest : List ℕ) : Type 0 where
  pub pieces : List Piece
  pub gap : AreGap pieces rest
  pub text_is : text ≡ gap_bytes pieces ++ rest

-- the text is one piece of a gap, and then the rest
pub record BeginsWithPiece (text rest : List ℕ) : Type 0 where
  pub piece : Piece
  pub valid : IsPiece piece rest
  pub begins : text ≡ piece_bytes piece ++ rest
