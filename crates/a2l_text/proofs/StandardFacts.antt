-- Worked examples of the definitions.
use Rattle.std.proofs.Common.{◌≡◌, [], ◌∷◌, None, refl, codes, lit<, arith}
use Rattle.fast_float.proofs.OnLiterals.{fast_float_on_literals}
use Rattle.a2l_text.specs.declared.fault.WordFault.TheVariants.{OpenComment}
use Rattle.a2l_text.specs.Kinds.{kind_of}
use Rattle.a2l_text.specs.Fronts.{ends_plain}
use Rattle.a2l_text.specs.Gaps.{Skips, blank, line_comment, block_comment}
use Rattle.a2l_text.specs.Tokens.{begin, plain, unquoted, IsRun}
use Rattle.a2l_text.specs.Words.{AreWords}
use Rattle.a2l_text.specs.Faults.{Stalls}
use Rattle.a2l_text.specs.Places.{place_at}
use Rattle.a2l_text.specs.Numbers.{IsInteger, SaysNumber}
use Rattle.a2l_text.specs.Texts.{unescaped}

-- a comment ends a word, and a line
two_words : AreWords (codes "/begin A//b") (begin ∷ plain (codes "A") ∷ [])
unfolding kind_of ends_plain unquoted
two_words =
    let begins : IsRun (codes "/begin") (codes " A//b") =
    record { not_empty = lit< tt; longest = (refl, (refl, (refl, (refl, (refl, (refl, refl)))))) } in
    let a : IsRun (codes "A") (codes "//b") = record { not_empty = lit< tt; longest = (refl, refl) } in
    let before : Skips (codes "/begin A//b") (codes "/begin A//b") = record { pieces = []; gap = tt; text_is = refl } in
    let between : Skips (codes " A//b") (codes "A//b") = record { pieces = blank 32 ∷ []; gap = (refl, tt); text_is = refl } in
    let behind : Skips (codes "//b") [] = record { pieces = line_comment (codes "b") ∷ []; gap = ((refl, refl), tt); text_is = refl } in
    (codes " A//b", record { gap = before; valid = begins }, (codes "//b", record { gap = between; valid = (a, refl) }, behind))

-- a comment isn't nested, and what begins behind it isn't closed
no_end : Stalls (codes "/*/*//*b") OpenComment (codes "/*b")
no_end =
    let behind : Skips (codes "/*/*//*b") (codes "/*b") = record { pieces = block_comment (codes "/") ∷ []; gap = ((refl, refl), tt); text_is = refl } in
    record { gap = behind; fault_is = (codes "b", refl, (refl, tt)) }

third_line : place_at (65 ∷ 10 ∷ 10 ∷ 66 ∷ 67 ∷ []) 4 ≡ record { line = 3; column = 2 }
third_line = refl

-- a""b\"c\n
escapes : unescaped (97 ∷ 34 ∷ 34 ∷ 98 ∷ 92 ∷ 34 ∷ 99 ∷ 92 ∷ 110 ∷ []) ≡ 97 ∷ 34 ∷ 98 ∷ 34 ∷ 99 ∷ 10 ∷ []
unfolding unescaped
escapes = refl

-- a word of no byte, which no text has, says neither an integer nor a number
no_integer : IsInteger [] → ⊥
no_integer integer = omega (arith, integer.numeral.0)

no_number : SaysNumber [] None
unfolding fast_float_on_literals
no_number = refl
