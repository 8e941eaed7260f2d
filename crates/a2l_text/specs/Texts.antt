-- What a text between quotes says.
use Rattle.std.specs.Prelude.{◌≡◌, ℕ, Bool, List, [], ◌∷◌, ◌==◌, ◌&&◌, ◌||◌, if◌then◌else◌}
use Rattle.std.specs.Prelude.{IsUtf8, encode_utf8_all}

-- the letter behind a backslash makes an escape: a quote, a backslash, n or t
abbrev pub is_escape : ℕ → Bool
is_escape byte = (byte == 34 || byte == 92) || (byte == 110 || byte == 116)

-- what the escape stands for: n a line feed, t a tab, the others for themselves
abbrev pub escaped : ℕ → ℕ
escaped byte = if byte == 110 then 10 else (if byte == 116 then 9 else byte)

-- two bytes stand for one
abbrev pub is_pair : ℕ → ℕ → Bool
is_pair first second = (first == 34 && second == 34) || (first == 92 && is_escape second)

-- the bytes that are said: a doubled quote is one, escapes are what they stand for, all else stays
unfoldable pub unescaped : List ℕ → List ℕ
unescaped [] = []
unescaped (byte ∷ []) = byte ∷ []
unescaped (first ∷ second ∷ bytes) =
    if is_pair first second then escaped second ∷ unescaped bytes
    else first ∷ unescaped (second ∷ bytes)

-- the text of bytes: UTF-8 as it is, and others by ISO 8859-1, a character a byte
pub record IsDecoded (bytes text : List ℕ) : Type 0 where
  pub utf8 : IsUtf8 bytes → text ≡ bytes
  pub latin : ¬ (IsUtf8 bytes) → text ≡ encode_utf8_all bytes
