-- The words of a text at its first space, and the number of a word.
use Rattle.std.proofs.Common.{◌≡◌, ◌≢◌, ◌<◌, ◌^◌, ◌==◌, ◌&&◌, ℕ, Bool, true, false, List, [], ◌∷◌, length, get_or, Option, Some, None, Err, Bor, MatchOption, nat_lt, not, slice_index, ltb-true, inl, inr, if◌then◌else◌, refl, ap, ◌∙◌, arith, lit<, ne_eqb}
use Rattle.std.specs.List.{All, list_all, onto_first}
use Rattle.std.specs.Str.{all_ascii_digits}
use Rattle.std.specs.Char.{is_ascii_digit}
use Rattle.std.specs.Str.Parse.{ParsesUnsigned, digits_value}
use Rattle.std.proofs.lemmas.Bool.{and_parts, cases_lt, lt-leb}
use Rattle.std.proofs.lemmas.List.Elements.{All-from_get_or}
use Rattle.std.proofs.lemmas.List.Splits.{slice_split_none, slice_split_at}
use Rattle.std.proofs.lemmas.Str.Pattern.{IsSplitOnceResult, split_parts}
use Rattle.std.proofs.lemmas.Str.Parse.{numerals_by_value, tells_all_ascii_digits, parse_digits}
use Rattle.run_file.specs.StepOf.{is_space, words_of, is_plain, number_of, wording_of}

-- all bytes pass, by each of std's two words for it
pub digits_by_test : (bs : List ℕ) → list_all is_ascii_digit bs ≡ all_ascii_digits bs
digits_by_test [] = refl
digits_by_test (b ∷ bs) = ap (λ (t : Bool). is_ascii_digit b && t) (digits_by_test bs)

-- where each byte of a text differs from a space, none is one
no_space : (bs : List ℕ) → ((i : ℕ) → i < length bs → get_or bs i 0 ≢ 32) → All (λ b. is_space b ≡ false) bs
no_space bs h = All-from_get_or (λ b. is_space b ≡ false) bs 0 (λ i l. ne_eqb (get_or bs i 0) 32 (h i l))

-- what a cut at the first space says of the words
pub words_at_cut : (bs : List ℕ) (r : Option (Bor (List ℕ) × Bor (List ℕ))) → IsSplitOnceResult 32 bs r
    → MatchOption r (words_of bs ≡ bs ∷ []) (λ x. words_of bs ≡ x.0.now ∷ words_of x.1.now)
words_at_cut bs None h = slice_split_none is_space bs (no_space bs (split_parts 32 bs None h (lit< tt)))
words_at_cut bs (Some x) h =
    let parts = split_parts 32 bs (Some x) h (lit< tt) in
    ap words_of parts.0 ∙ slice_split_at is_space x.0.now 32 x.1.now (no_space x.0.now parts.1) refl

-- a text has a word
onto_some : (b : ℕ) (ws : List (List ℕ)) → (first : List ℕ) × (more : List (List ℕ)) × (onto_first b ws ≡ first ∷ more)
onto_some b [] = (b ∷ [], [], refl)
onto_some b (w ∷ ws) = (b ∷ w, ws, refl)

has_word_at : (t : Bool) (b : ℕ) (ws : List (List ℕ)) → (first : List ℕ) × (more : List (List ℕ)) × ((if t then [] ∷ ws else onto_first b ws) ≡ first ∷ more)
has_word_at true b ws = ([], ws, refl)
has_word_at false b ws = onto_some b ws

pub has_word : (bs : List ℕ) → (first : List ℕ) × (more : List (List ℕ)) × (words_of bs ≡ first ∷ more)
has_word [] = ([], [], refl)
has_word (b ∷ bs) = has_word_at (is_space b) b (words_of bs)

-- more words than four are no step
pub no_step_of_five : (most : ℕ) (text a b c d v w x y : List ℕ) → words_of text ≡ v ∷ words_of a → words_of a ≡ w ∷ words_of b
    → words_of b ≡ x ∷ words_of c → words_of c ≡ y ∷ words_of d → wording_of most text ≡ None
no_step_of_five most text a b c d v w x y ea eb ec ed =
    let some = has_word d in
    rw (ea, eb, ec, ed, some.2) refl

-- a word of digits that is no number of 32 bits is none of at most so many
pub no_number : {E : Type 0} (most : ℕ) (bs : List ℕ) (e : E) → ParsesUnsigned {E = E} 32 10 bs (Err e) → is_plain bs ≡ true → most < 2 ^ 32
    → number_of most bs ≡ None
no_number {E} most bs e h plain small =
    let some = and_parts (nat_lt 0 (length bs)) (not (nat_lt 1 (length bs) && slice_index bs 0 == 48) && all_ascii_digits bs) plain in
    let rest = and_parts (not (nat_lt 1 (length bs) && slice_index bs 0 == 48)) (all_ascii_digits bs) some.1 in
    let own = numerals_by_value (λ ds. all_ascii_digits ds ≡ true) tells_all_ascii_digits in
    let wide = parse_digits own 32 bs (Err e) h rest.1 in
    elim (cases_lt most (digits_value 10 bs)) [
      | inl high ↦ rw (plain, lt-leb (digits_value 10 bs) most high) refl
      | inr low ↦ absurd (wide (ltb-true 0 (length bs) some.0, omega (arith, low, small)))
    ]
