-- What single words say: names, texts and numbers.
use Rattle.std.specs.Prelude.{ℕ, Bool, true, zero, suc, List, [], ◌∷◌, length, ◌^◌}
use Rattle.std.specs.Prelude.{◌&&◌, nat_lt, Option, Some, None, if◌then◌else◌, pos, map}
use Rattle.std.specs.Prelude.{encode_utf8_all}
use Rattle.std.specs.Option.{option_map, option_and_then, unwrap_or}
use Rattle.std.specs.Char.{digit_value}
use Rattle.std.specs.Str.{is_utf8}
use Rattle.std.specs.Float.{binary64}
use Rattle.std.specs.Float.Ieee.{Float, of_int}
use Rattle.fast_float.specs.Parse.{parse_float}
use Rattle.a2l_text.specs.Tokens.{Token, begin, end, include, plain, quoted}
use Rattle.a2l_text.specs.TokenOf.{token_of}
use Rattle.a2l_text.specs.Texts.{unescaped}
use Rattle.a2l_text.specs.Numbers.{is_hexadecimal, radix_of, digits_of, integer_value, if_finite}
use Rattle.a2l_text.specs.declared.located.Located.{Located}
use Rattle.a2l_entries.specs.declared.left.Left.{Left}
use Rattle.a2l_entries.specs.Gives.{◌>>=◌}

abbrev pub token_at : Located → Token
token_at l = token_of l.word

-- the words that aren't read yet
abbrev pub tokens_of : Left → List Token
tokens_of left = map token_at left.words.now

-- a word, and those behind it
abbrev pub first_of : List Token → Option (Token × List Token)
first_of [] = None
first_of (w ∷ ws) = Some (w, ws)

-- the words behind the first so many
abbrev pub behind : ℕ → List Token → Option (List Token)
behind zero ws = Some ws
behind (suc n) [] = None
behind (suc n) (w ∷ ws) = behind n ws

-- ---- single words

abbrev pub plain_said : Token → Option (List ℕ)
plain_said begin = None
plain_said end = None
plain_said include = None
plain_said (plain bytes) = Some bytes
plain_said (quoted bytes) = None

abbrev pub quoted_said : Token → Option (List ℕ)
quoted_said begin = None
quoted_said end = None
quoted_said include = None
quoted_said (plain bytes) = None
quoted_said (quoted bytes) = Some bytes

-- bytes as a text: UTF-8 as it is, and others by ISO 8859-1
abbrev pub decoded : List ℕ → List ℕ
decoded bytes = if is_utf8 bytes then bytes else encode_utf8_all bytes

-- what bytes say, if they aren't too many
unfoldable pub kept : List ℕ → Option (List ℕ)
kept bytes = if nat_lt 1024 (length bytes) then None else Some (decoded (unescaped bytes))

-- the same, or nothing, if they are too many
abbrev pub kept_or_empty : List ℕ → List ℕ
kept_or_empty bytes = unwrap_or (kept bytes) []

unfoldable pub name_said : Token → Option (List ℕ)
name_said w = plain_said w >>= kept

unfoldable pub text_said : Token → Option (List ℕ)
text_said w = quoted_said w >>= kept

-- a long identifier: nothing, if it is too long
unfoldable pub identifier_said : Token → Option (List ℕ)
identifier_said w = option_map kept_or_empty (quoted_said w)

abbrev pub all_digits : ℕ → List ℕ → Bool
all_digits radix [] = true
all_digits radix (c ∷ cs) = nat_lt (digit_value c) radix && all_digits radix cs

-- one digit or more, and nothing else but 0x before hexadecimal ones, below 2 ^ 64
abbrev pub is_integer : List ℕ → Bool
is_integer word =
    (nat_lt 0 (length (digits_of word)) && all_digits (radix_of word) (digits_of word))
    && nat_lt (integer_value word) (2 ^ 64)

unfoldable pub integer_in : List ℕ → Option ℕ
integer_in word = if is_integer word then Some (integer_value word) else None

abbrev pub nearest : ℕ → Float
nearest n = of_int binary64 (pos n)

-- the finite number that a word says
unfoldable pub number_in : List ℕ → Option Float
number_in word =
    if is_hexadecimal word then option_map nearest (integer_in word)
    else option_and_then if_finite (parse_float binary64 word)

unfoldable pub integer_said : Token → Option ℕ
integer_said w = plain_said w >>= integer_in

unfoldable pub number_said : Token → Option Float
number_said w = plain_said w >>= number_in

-- ---- the word that comes first

unfoldable pub name_first : List Token → Option (List ℕ × List Token)
name_first ws = do
  first ← first_of ws
  name ← name_said first.0
  Some (name, first.1)

unfoldable pub text_first : List Token → Option (List ℕ × List Token)
text_first ws = do
  first ← first_of ws
  text ← text_said first.0
  Some (text, first.1)

unfoldable pub identifier_first : List Token → Option (List ℕ × List Token)
identifier_first ws = do
  first ← first_of ws
  identifier ← identifier_said first.0
  Some (identifier, first.1)

unfoldable pub behind_text : List Token → Option (List Token)
behind_text ws = do
  first ← first_of ws
  text ← quoted_said first.0
  Some first.1

unfoldable pub number_first : List Token → Option (Float × List Token)
number_first ws = do
  first ← first_of ws
  number ← number_said first.0
  Some (number, first.1)
