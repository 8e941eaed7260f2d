-- What single words say is what the calls on them answer.
use Rattle.std.proofs.Common.{◌≡◌, ℕ, zero, suc, ◌<◌, ◌≤◌, ◌^◌, Bool, true, false, cond, ltb, List, [], ◌∷◌, length, drop, Option, Some, None, refl, sym, ap, ◌∙◌, arith}
use Rattle.std.specs.Prelude.{pos, encode_utf8_all, IsUtf8, ◌&&◌}
use Rattle.std.specs.Bool.{MatchBool}
use Rattle.std.specs.Option.{SomeIff, option_map, option_and_then, unwrap_or}
use Rattle.std.specs.Char.{digit_value}
use Rattle.std.specs.Str.{is_utf8}
use Rattle.std.specs.Str.Parse.{AllDigits}
use Rattle.std.specs.Float.{binary64}
use Rattle.std.specs.Float.Ieee.{Float, of_int}
use Rattle.std.proofs.lemmas.Bool.{lt-ltb, le-ltb, ltb-true}
use Rattle.std.proofs.lemmas.Str.{IsUtf8-from_is_utf8, is_utf8-from_IsUtf8}
use Rattle.fast_float.specs.Parse.{parse_float}
use Rattle.a2l_text.specs.Tokens.{Token}
use Rattle.a2l_text.specs.Texts.{unescaped, IsDecoded}
use Rattle.a2l_text.specs.Numbers.{is_hexadecimal, radix_of, digits_of, IsInteger, integer_value, if_finite, SaysNumber}
use Rattle.a2l_entries.specs.Said.{plain_said, integer_said, decoded, kept, kept_or_empty, all_digits, is_integer, integer_in, nearest, number_in, behind}

-- ---- texts

by_test : (b : Bool) (bytes text : List ℕ) → is_utf8 bytes ≡ b → IsDecoded bytes text → text ≡ cond b bytes (encode_utf8_all bytes)
by_test true bytes text e d = d.utf8 (IsUtf8-from_is_utf8 bytes e)
by_test false bytes text e d = d.latin (λ (u : IsUtf8 bytes). let t : true ≡ false = sym (is_utf8-from_IsUtf8 bytes u) ∙ e in absurd cc)

pub text_is_decoded : (bytes text : List ℕ) → IsDecoded bytes text → text ≡ decoded bytes
text_is_decoded bytes text d = by_test (is_utf8 bytes) bytes text refl d

pub kept_some : (bytes text : List ℕ) → length bytes ≤ 1024 → IsDecoded (unescaped bytes) text → kept bytes ≡ Some text
unfolding kept
kept_some bytes text le d = rw (le-ltb 1024 (length bytes) le) (ap Some (sym (text_is_decoded (unescaped bytes) text d)))

pub kept_all : (bytes text : List ℕ) → length bytes ≤ 1024 → IsDecoded (unescaped bytes) text → text ≡ kept_or_empty bytes
kept_all bytes text le d = sym (ap (λ (o : Option (List ℕ)). unwrap_or o []) (kept_some bytes text le d))

-- ---- integers

and_both : (a b : Bool) → a ≡ true → b ≡ true → (a && b) ≡ true
and_both true true e f = refl
and_both true false e f = absurd cc
and_both false b e f = absurd cc

and_parts : (a b : Bool) → (a && b) ≡ true → (a ≡ true) × (b ≡ true)
and_parts true b e = (refl, e)
and_parts false b e = absurd cc

digits_tested : (radix : ℕ) (ds : List ℕ) → AllDigits radix ds → all_digits radix ds ≡ true
digits_tested radix [] a = refl
digits_tested radix (c ∷ cs) a = and_both _ _ (lt-ltb (digit_value c) radix a.0) (digits_tested radix cs a.1)

digits_are : (radix : ℕ) (ds : List ℕ) → all_digits radix ds ≡ true → AllDigits radix ds
digits_are radix [] e = tt
digits_are radix (c ∷ cs) e = let p = and_parts (ltb (digit_value c) radix) (all_digits radix cs) e in (ltb-true (digit_value c) radix p.0, digits_are radix cs p.1)

integer_tested : (word : List ℕ) → IsInteger word → is_integer word ≡ true
integer_tested word i =
    and_both _ _ (and_both _ _ (lt-ltb 0 (length (digits_of word)) i.numeral.0) (digits_tested (radix_of word) (digits_of word) i.numeral.1))
    (lt-ltb (integer_value word) (2 ^ 64) i.fits)

is_tested : (word : List ℕ) → is_integer word ≡ true → IsInteger word
is_tested word e =
    let p = and_parts (ltb 0 (length (digits_of word)) && all_digits (radix_of word) (digits_of word)) (ltb (integer_value word) (2 ^ 64)) e in
    let q = and_parts (ltb 0 (length (digits_of word))) (all_digits (radix_of word) (digits_of word)) p.0 in
    record {
      numeral = (ltb-true 0 (length (digits_of word)) q.0, digits_are (radix_of word) (digits_of word) q.1);
      fits = ltb-true (integer_value word) (2 ^ 64) p.1;
    }

integer_by : {A : Type 0} (b : Bool) (word : List ℕ) (o : Option A) (x : A) → is_integer word ≡ b → SomeIff o (IsInteger word) x → cond b (Some x) None ≡ o
integer_by true word None x e s = absurd (s (is_tested word e))
integer_by true word (Some y) x e s = ap Some (sym s.1)
integer_by false word None x e s = refl
integer_by false word (Some y) x e s = let t : true ≡ false = sym (integer_tested word s.0) ∙ e in absurd cc

pub integer_is : (word : List ℕ) (o : Option ℕ) → SomeIff o (IsInteger word) (integer_value word) → integer_in word ≡ o
unfolding integer_in
integer_is word o s = integer_by (is_integer word) word o (integer_value word) refl s

mapped : (b : Bool) (n : ℕ) → option_map nearest (cond b (Some n) None) ≡ cond b (Some (nearest n)) None
mapped true n = refl
mapped false n = refl

number_by : (b : Bool) (word : List ℕ) (o : Option Float) → is_hexadecimal word ≡ b
    → MatchBool b (SomeIff o (IsInteger word) (of_int binary64 (pos (integer_value word)))) (o ≡ option_and_then if_finite (parse_float binary64 word))
    → cond b (option_map nearest (integer_in word)) (option_and_then if_finite (parse_float binary64 word)) ≡ o
unfolding integer_in
number_by true word o e s = mapped (is_integer word) (integer_value word) ∙ integer_by (is_integer word) word o (nearest (integer_value word)) refl s
number_by false word o e s = sym s

pub number_is : (word : List ℕ) (o : Option Float) → SaysNumber word o → number_in word ≡ o
unfolding number_in
number_is word o s = number_by (is_hexadecimal word) word o refl s

-- ---- words that are passed over

pub behind_some : (n : ℕ) (ws : List Token) → n ≤ length ws → behind n ws ≡ Some (drop n ws)
behind_some zero ws le = refl
behind_some (suc n) [] le = absurd (omega arith)
behind_some (suc n) (w ∷ ws) le = behind_some n ws (omega arith)

pub behind_none : (n : ℕ) (ws : List Token) → length ws < n → behind n ws ≡ None
behind_none zero ws lt = absurd (omega arith)
behind_none (suc n) [] lt = refl
behind_none (suc n) (w ∷ ws) lt = behind_none n ws (omega arith)

pub integer_from : (w : Token) (b : List ℕ) (o : Option ℕ) → Some b ≡ plain_said w → SomeIff o (IsInteger b) (integer_value b) → o ≡ integer_said w
unfolding integer_said
integer_from w b o e s = sym (rw (← e) (integer_is b o s))
