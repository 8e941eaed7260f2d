-- Which files are no text in UTF-8 or ISO 8859-1.
use Rattle.std.specs.Prelude.{ℕ, ◌==◌, ◌||◌, Bool, List, [], ◌∷◌, length, Option, Some, None}
use Rattle.std.specs.Prelude.{if◌then◌else◌, bytes_eq, take}
use Rattle.std.specs.List.{list_any}
use Rattle.xcpread.specs.declared.no_text.NoText.{NoText}
use Rattle.xcpread.specs.declared.no_text.NoText.TheVariants.{Empty, Utf16, Zero}

-- the first two bytes are the mark of UTF-16, in either order
abbrev pub is_utf16 : List ℕ → Bool
is_utf16 bytes =
    bytes_eq (take 2 bytes) (0xff ∷ 0xfe ∷ []) || bytes_eq (take 2 bytes) (0xfe ∷ 0xff ∷ [])

abbrev pub has_zero : List ℕ → Bool
has_zero bytes = list_any (λ b. b == 0) bytes

-- why bytes are no text: there are none, they are UTF-16, or one of them is 0
abbrev pub no_text : List ℕ → Option NoText
no_text bytes =
    if length bytes == 0 then Some Empty
    else (if is_utf16 bytes then Some Utf16
    else (if has_zero bytes then Some Zero else None))
