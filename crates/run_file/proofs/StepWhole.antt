-- The other half: each step of the grammar is what the function gives.
use Rattle.std.proofs.Common.{◌≡◌, ◌≢◌, ◌<◌, ◌≤◌, ◌+◌, ◌*◌, ◌==◌, ◌&&◌, nat_le, nat_lt, not, ℕ, Bool, true, false, List, [], ◌∷◌, length, get_or, slice_index, slice_index_or, codes, Some, refl, ap, ◌∙◌, arith, inl, inr}
use Rattle.std.specs.List.{All}
use Rattle.std.specs.Str.{all_ascii_digits}
use Rattle.std.specs.Str.Parse.{digits_value}
use Rattle.std.proofs.lemmas.Bool.{le-leb, lt-ltb, le-ltb, cases_lt, false≢true, ne_eqb, cases_eq}
use Rattle.hex.specs.Hex.{is_hex_digit}
use Rattle.hex.proofs.HexLemmas.{decode_of-ok}
use Rattle.std.proofs.lemmas.List.Elements.{All-from_get_or, All-from_recursion}
use Rattle.std.proofs.lemmas.List.Splits.{slice_split_none, slice_split_at}
use Rattle.std.proofs.lemmas.Str.Parse.{numerals_by_value, tells_all_ascii_digits, not_in_digits}
use Rattle.run_file.specs.Steps.{IsDecimal, IsImage, IsStepText, StepData, spaced, pump, start, stop, trigger}
use Rattle.run_file.specs.StepOf.{image_of, is_plain, is_space, number_of, step_of, words_of}

-- a number has no space
decimal_one_word : (word : List ℕ) (n : ℕ) → IsDecimal word n → All (λ b. is_space b ≡ false) word
decimal_one_word word n d =
    let own = numerals_by_value (λ ds. all_ascii_digits ds ≡ true) tells_all_ascii_digits in
    All-from_get_or (λ b. is_space b ≡ false) word 0
    (λ i l. ne_eqb (get_or word i 0) 32 (not_in_digits own word 32 (own.from word d.digits.1) (λ r. omega (arith, r)) i l))

plain_test : (n z : ℕ) (digits : Bool) → 0 < n → (1 < n → z ≢ 48) → digits ≡ true → (nat_lt 0 n && (not (nat_lt 1 n && z == 48) && digits)) ≡ true
plain_test n z digits some shortest all =
    elim (cases_lt 1 n) [
      | inl long ↦ rw (lt-ltb 0 n some, lt-ltb 1 n long, ne_eqb z 48 (shortest long), all) refl
      | inr short ↦ rw (lt-ltb 0 n some, le-ltb 1 n short, all) refl
    ]

-- a number of the grammar is read
pub number_of-decimal : (most n : ℕ) (word : List ℕ) → IsDecimal word n → n ≤ most → number_of most word ≡ Some n
number_of-decimal most n word d low =
    let own = numerals_by_value (λ ds. all_ascii_digits ds ≡ true) tells_all_ascii_digits in
    let plain : is_plain word ≡ true = plain_test (length word) (slice_index word 0) (all_ascii_digits word) d.digits.0 d.shortest (own.from word d.digits.1) in
    let fits : nat_le (digits_value 10 word) most ≡ true = le-leb (digits_value 10 word) most (omega (arith, low, d.value)) in
    rw (plain, fits) (ap Some d.value)

-- a switch's words are its words
pub words_of-switch : (verb c l : List ℕ) → All (λ b. is_space b ≡ false) verb → All (λ b. is_space b ≡ false) c → All (λ b. is_space b ≡ false) l
    → words_of (spaced (verb ∷ c ∷ l ∷ [])) ≡ verb ∷ c ∷ l ∷ []
words_of-switch verb c l hv hc hl =
    slice_split_at is_space verb 32 (spaced (c ∷ l ∷ [])) hv refl
    ∙ ap (λ ws. verb ∷ ws) (slice_split_at is_space c 32 l hc refl ∙ ap (λ ws. c ∷ ws) (slice_split_none is_space l hl))

no_space_in_start : All (λ b. is_space b ≡ false) (codes "start")
no_space_in_start = All-from_recursion (λ b. is_space b ≡ false) (codes "start") (refl, (refl, (refl, (refl, (refl, tt)))))

-- a start of the grammar is what the function gives
pub step_of-start : (most : ℕ) (text : List ℕ) (n m : ℕ) → IsStepText (most + 1) text (start n m) → step_of most text ≡ Some (start n m)
step_of-start most text n m s =
    let words : words_of text ≡ codes "start" ∷ s.c ∷ s.l ∷ [] =
    ap words_of s.words ∙ words_of-switch (codes "start") s.c s.l no_space_in_start (decimal_one_word s.c n s.channel_word) (decimal_one_word s.l m s.list_word) in
    rw (words, number_of-decimal most n s.c s.channel_word (omega (arith, s.below)), number_of-decimal 255 m s.l s.list_word (omega (arith, s.fits))) refl

no_space_in_stop : All (λ b. is_space b ≡ false) (codes "stop")
no_space_in_stop = All-from_recursion (λ b. is_space b ≡ false) (codes "stop") (refl, (refl, (refl, (refl, tt))))

pub step_of-stop : (most : ℕ) (text : List ℕ) (n m : ℕ) → IsStepText (most + 1) text (stop n m) → step_of most text ≡ Some (stop n m)
step_of-stop most text n m s =
    let words : words_of text ≡ codes "stop" ∷ s.c ∷ s.l ∷ [] =
    ap words_of s.words ∙ words_of-switch (codes "stop") s.c s.l no_space_in_stop (decimal_one_word s.c n s.channel_word) (decimal_one_word s.l m s.list_word) in
    rw (words, number_of-decimal most n s.c s.channel_word (omega (arith, s.below)), number_of-decimal 255 m s.l s.list_word (omega (arith, s.fits))) refl

-- an image has no space
not_hex_space : (b : ℕ) → is_hex_digit b ≡ true → is_space b ≡ false
not_hex_space b h =
    elim (cases_eq b 32) [
      | inl e ↦ absurd (false≢true (rw e at h))
      | inr other ↦ ne_eqb b 32 other
    ]

pub image_one_word : (word image : List ℕ) → IsImage word image → All (λ b. is_space b ≡ false) word
image_one_word word image i k d l =
    let digits = (decode_of-ok word image i.digits).1 in
    not_hex_space (slice_index_or word k d) (digits k d l)

pub image_of-image : (word image : List ℕ) → IsImage word image → image_of word ≡ Some image
image_of-image word image i =
    let long : length word ≡ 2 * length image = (decode_of-ok word image i.digits).2 in
    let some : (length word == 0) ≡ false = ne_eqb (length word) 0 (λ e. omega (arith, e, long, i.some)) in
    rw (some, i.digits) refl

no_space_in_trigger : All (λ b. is_space b ≡ false) (codes "trigger")
no_space_in_trigger = All-from_recursion (λ b. is_space b ≡ false) (codes "trigger") (refl, (refl, (refl, (refl, (refl, (refl, (refl, tt)))))))

words_of-trigger : (verb c s i : List ℕ) → All (λ b. is_space b ≡ false) verb → All (λ b. is_space b ≡ false) c → All (λ b. is_space b ≡ false) s → All (λ b. is_space b ≡ false) i
    → words_of (spaced (verb ∷ c ∷ s ∷ i ∷ [])) ≡ verb ∷ c ∷ s ∷ i ∷ []
words_of-trigger verb c s i hv hc hs hi =
    slice_split_at is_space verb 32 (spaced (c ∷ s ∷ i ∷ [])) hv refl ∙ ap (λ ws. verb ∷ ws) (words_of-switch c s i hc hs hi)

pub step_of-trigger : (most : ℕ) (text : List ℕ) (n m : ℕ) (image : List ℕ) → IsStepText (most + 1) text (trigger n m image) → step_of most text ≡ Some (trigger n m image)
step_of-trigger most text n m image t =
    let words : words_of text ≡ codes "trigger" ∷ t.c ∷ t.s ∷ t.i ∷ [] =
    ap words_of t.words ∙ words_of-trigger (codes "trigger") t.c t.s t.i no_space_in_trigger (decimal_one_word t.c n t.channel_word) (decimal_one_word t.s m t.stamp_word) (image_one_word t.i image t.image_word) in
    rw (words, number_of-decimal most n t.c t.channel_word (omega (arith, t.below)), number_of-decimal 4294967295 m t.s t.stamp_word (omega (arith, t.fits)), image_of-image t.i image t.image_word) refl

-- so is the pump step
pub step_of-pump : (most : ℕ) (text : List ℕ) → IsStepText (most + 1) text pump → step_of most text ≡ Some pump
step_of-pump most text e = ap (step_of most) e

pub step_of-IsStepText : (most : ℕ) (text : List ℕ) (step : StepData) → IsStepText (most + 1) text step → step_of most text ≡ Some step
step_of-IsStepText most text (trigger n m image) s = step_of-trigger most text n m image s
step_of-IsStepText most text (start n m) s = step_of-start most text n m s
step_of-IsStepText most text (stop n m) s = step_of-stop most text n m s
step_of-IsStepText most text pump s = step_of-pump most text s
