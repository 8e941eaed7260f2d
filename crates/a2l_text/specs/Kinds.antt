-- What begins at a place of an A2L text (ASAM MCD-2 MC, the description file).
use Rattle.std.specs.Prelude.{ℕ, Bool, true, false, List, [], ◌∷◌}
use Rattle.std.specs.Prelude.{◌==◌, ◌&&◌, ◌||◌, nat_le, if◌then◌else◌}
use Rattle.a2l_text.specs.declared.kind.Kind.{Kind}
use Rattle.a2l_text.specs.declared.kind.Kind.TheVariants.{Nothing, Blank, LineComment}
use Rattle.a2l_text.specs.declared.kind.Kind.TheVariants.{BlockComment, Text, Plain}

-- a space, or a tab, line feed, vertical tab, form feed or carriage return
abbrev pub is_blank : ℕ → Bool
is_blank byte = byte == 32 || (nat_le 9 byte && nat_le byte 13)

-- what begins with a slash before these bytes
abbrev pub kind_of_slash : List ℕ → Kind
kind_of_slash [] = Plain
kind_of_slash (byte ∷ bytes) =
    if byte == 47 then LineComment else (if byte == 42 then BlockComment else Plain)

-- what begins with these bytes
unfoldable pub kind_of : List ℕ → Kind
kind_of [] = Nothing
kind_of (byte ∷ bytes) =
    if is_blank byte then Blank
    else (if byte == 34 then Text else (if byte == 47 then kind_of_slash bytes else Plain))

abbrev pub is_plain : Kind → Bool
is_plain Nothing = false
is_plain Blank = false
is_plain LineComment = false
is_plain BlockComment = false
is_plain Text = false
is_plain Plain = true

-- a blank or a comment begins
abbrev pub is_gap : Kind → Bool
is_gap Nothing = false
is_gap Blank = true
is_gap LineComment = true
is_gap BlockComment = true
is_gap Text = false
is_gap Plain = false
