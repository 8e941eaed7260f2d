-- The words of an A2L text without where they lie in memory.
use Rattle.std.specs.Prelude.{◌≡◌, ◌≢◌, ◌<◌, ◌⊎◌, ℕ, Bool, false, List, [], ◌∷◌, ◌++◌, length}
use Rattle.std.specs.Prelude.{◌==◌, codes, bytes_eq, if◌then◌else◌}
use Rattle.a2l_text.specs.Fronts.{IsUpTo, ends_plain}

pub data Token : Type 0 where
  begin : Token
  end : Token
  include : Token
  plain : (bytes : List ℕ) → Token
  quoted : (bytes : List ℕ) → Token

-- a word's bytes in a text
abbrev pub spelling : Token → List ℕ
spelling begin = codes "/begin"
spelling end = codes "/end"
spelling include = codes "/include"
spelling (plain bytes) = bytes
spelling (quoted bytes) = 34 ∷ (bytes ++ 34 ∷ [])

-- the word that has these bytes and no quotes
unfoldable pub unquoted : List ℕ → Token
unquoted bytes =
    if bytes_eq bytes (codes "/begin") then begin
    else (if bytes_eq bytes (codes "/end") then end
    else (if bytes_eq bytes (codes "/include") then include else plain bytes))

-- the bytes are the longest run of what is no blank, no quote and no comment's beginning
pub record IsRun (bytes rest : List ℕ) : Type 0 where
  pub not_empty : 0 < length bytes
  pub longest : IsUpTo ends_plain bytes rest

-- a byte that stands for itself between quotes: no quote and no backslash
abbrev pub IsOwn : ℕ → Type 0
IsOwn byte = (byte ≢ 34) × (byte ≢ 92)

-- a backslash with the byte that it takes along, or a doubled quote
abbrev pub IsPair : ℕ → ℕ → Type 0
IsPair first second = (first ≡ 92) ⊎ ((first ≡ 34) × (second ≡ 34))

-- what may stand between two quotes
abbrev pub IsInText : List ℕ → Type 0
IsInText [] = Unit {0}
IsInText (byte ∷ []) = IsOwn byte
IsInText (first ∷ second ∷ bytes) =
    (IsOwn first × IsInText (second ∷ bytes)) ⊎ (IsPair first second × IsInText bytes)

abbrev pub begins_with_quote : List ℕ → Bool
begins_with_quote [] = false
begins_with_quote (byte ∷ bytes) = byte == 34

-- a word stands before the rest of a text
abbrev pub IsWord : Token → List ℕ → Type 0
IsWord begin rest = IsRun (codes "/begin") rest
IsWord end rest = IsRun (codes "/end") rest
IsWord include rest = IsRun (codes "/include") rest
IsWord (plain bytes) rest = IsRun bytes rest × (unquoted bytes ≡ plain bytes)
IsWord (quoted bytes) rest = IsInText bytes × (begins_with_quote rest ≡ false)
