-- The grammar of a step and the function that computes it agree: what the function gives is a step of the grammar.
use Rattle.std.proofs.Common.{◌≡◌, ◌≢◌, ◌<◌, ◌≤◌, ◌+◌, ◌*◌, ◌==◌, ◌&&◌, nat_le, nat_lt, not, ℕ, Bool, true, false, if◌then◌else◌, List, [], ◌∷◌, length, slice_index, codes, Option, Some, None, option_map, Result, Ok, Err, refl, sym, ap, ◌∙◌, subst, arith, rules}
use Rattle.std.specs.Prelude.{option_and_then}
use Rattle.std.specs.Str.{all_ascii_digits}
use Rattle.std.specs.Str.Parse.{digits_value}
use Rattle.std.proofs.lemmas.Bool.{and_parts, leb-true, ltb-true}
use Rattle.std.proofs.lemmas.Bool.Decides.{nat_tests}
use Rattle.std.proofs.lemmas.Option.{same_Some}
use Rattle.std.proofs.lemmas.List.Splits.{join_with_byte-slice_split}
use Rattle.std.proofs.lemmas.Str.Parse.{numerals_by_value, tells_all_ascii_digits}
use Rattle.std.proofs.lemmas.Slice.Eq.{bytes_eq-Decides}
use Rattle.hex.specs.declared.error.FromHexError.{FromHexError}
use Rattle.hex.specs.Hex.{decode_of}
use Rattle.hex.proofs.HexLemmas.{decode_of-ok}
use Rattle.run_file.specs.Steps.{IsDecimal, IsImage, IsStepText, IsSwitch, StepData, spaced, pump, start, stop, trigger}
use Rattle.run_file.specs.StepOf.{bytes_of, decoded, image_of, is_plain, is_verb, number_of, step_of, step_of_words, switch_of, trigger_of, verb_switch, with_image, words_of}

-- the words of a text, spaced, are the text
pub spaced-words_of : (text : List ℕ) → spaced (words_of text) ≡ text
spaced-words_of text = join_with_byte-slice_split 32 text

pub if_some : {X : Type 0} (t : Bool) (x y : X) → (if t then Some x else None) ≡ Some y → (t ≡ true) × (x ≡ y)
if_some true x y h = (refl, same_Some x y h)
if_some false x y h = cc h

-- no zero in front of other digits
no_zero : (word : List ℕ) → not (nat_lt 1 (length word) && slice_index word 0 == 48) ≡ true → 1 < length word → slice_index word 0 ≢ 48
no_zero word h long zero_first = grind (arith, nat_tests)

-- a word that reads as a number is that number in the grammar's sense, and within the bound
pub IsDecimal-number_of : (most n : ℕ) (word : List ℕ) → number_of most word ≡ Some n → IsDecimal word n × (n ≤ most)
IsDecimal-number_of most n word h =
    let read = if_some (is_plain word && nat_le (digits_value 10 word) most) (digits_value 10 word) n h in
    let tested = and_parts (is_plain word) (nat_le (digits_value 10 word) most) read.0 in
    let some = and_parts (nat_lt 0 (length word)) (not (nat_lt 1 (length word) && slice_index word 0 == 48) && all_ascii_digits word) tested.0 in
    let plain = and_parts (not (nat_lt 1 (length word) && slice_index word 0 == 48)) (all_ascii_digits word) some.1 in
    let own = numerals_by_value (λ ds. all_ascii_digits ds ≡ true) tells_all_ascii_digits in
    let low : digits_value 10 word ≤ most = leb-true (digits_value 10 word) most tested.1 in (
      record {
        digits = (ltb-true 0 (length word) some.0, own.to word plain.1);
        shortest = no_zero word plain.0;
        value = read.1;
      },
      omega (arith, low, read.1),
    )

pub and_then-some : {X Y : Type 0} (f : X → Option Y) (o : Option X) (y : Y) → option_and_then f o ≡ Some y → (x : X) × (o ≡ Some x) × (f x ≡ Some y)
and_then-some f None y h = cc h
and_then-some f (Some x) y h = (x, refl, h)

pub map-some : {X Y : Type 0} (f : X → Y) (o : Option X) (y : Y) → option_map f o ≡ Some y → (x : X) × (o ≡ Some x) × (f x ≡ y)
map-some f None y h = cc h
map-some f (Some x) y h = (x, refl, same_Some (f x) y h)

-- the test of a verb
pub same_verb : (word verb : List ℕ) → is_verb word verb ≡ true → word ≡ verb
same_verb word verb h = search (rules, bytes_eq-Decides, h)

pub if_then : {X : Type 0} (t : Bool) (o : Option X) (y : X) → (if t then o else None) ≡ Some y → (t ≡ true) × (o ≡ Some y)
if_then true o y h = (refl, h)
if_then false o y h = cc h

pub decoded-some : (r : Result (List ℕ) FromHexError) (bytes : List ℕ) → decoded r ≡ Some bytes → r ≡ Ok bytes
decoded-some (Ok bs) bytes h = ap Ok (same_Some bs bytes h)
decoded-some (Err e) bytes h = cc h

else_some : {X : Type 0} (t : Bool) (o : Option X) (y : X) → (if t then None else o) ≡ Some y → (t ≡ false) × (o ≡ Some y)
else_some true o y h = cc h
else_some false o y h = (refl, h)

eqb_above : (word : List ℕ) → (length word == 0) ≡ false → 0 < length word
eqb_above [] h = cc h
eqb_above (b ∷ word) h = omega arith

-- an image has a byte, since a word with digits decodes to half as many
pub IsImage-image_of : (word image : List ℕ) → image_of word ≡ Some image → IsImage word image
IsImage-image_of word image h =
    let parts = else_some (length word == 0) (bytes_of word) image h in
    let read = decoded-some (decode_of word) image parts.1 in
    let size = decode_of-ok word image read in
    let long : length word ≡ 2 * length image = size.2 in
    let some : 0 < length word = eqb_above word parts.0 in
    record { digits = read; some = omega (arith, long, some) }

-- the verb of a switch
verb_step : (most : ℕ) (v c l : List ℕ) (step : StepData) (n m : ℕ) → IsDecimal c n → n < most + 1 → IsDecimal l m → m < 256
    → verb_switch v n m ≡ Some step → IsStepText (most + 1) (spaced (v ∷ c ∷ l ∷ [])) step
verb_step most v c l step n m cd below ld fits h = by_verb (is_verb v (codes "start")) (is_verb v (codes "stop")) refl refl h
  where
    whole : (verb : List ℕ) → v ≡ verb → IsSwitch verb (most + 1) (spaced (v ∷ c ∷ l ∷ [])) n m
    whole verb e = record { c = c; l = l; words = ap (λ w. spaced (w ∷ c ∷ l ∷ [])) e; channel_word = cd; below = below; list_word = ld; fits = fits }

    by_verb : (a b : Bool) → is_verb v (codes "start") ≡ a → is_verb v (codes "stop") ≡ b → (if a then Some (start n m) else if b then Some (stop n m) else None) ≡ Some step
        → IsStepText (most + 1) (spaced (v ∷ c ∷ l ∷ [])) step
    by_verb true b ea eb h = subst (IsStepText (most + 1) (spaced (v ∷ c ∷ l ∷ []))) (same_Some (start n m) step h) (whole (codes "start") (same_verb v (codes "start") ea))
    by_verb false true ea eb h = subst (IsStepText (most + 1) (spaced (v ∷ c ∷ l ∷ []))) (same_Some (stop n m) step h) (whole (codes "stop") (same_verb v (codes "stop") eb))
    by_verb false false ea eb h = cc h

-- the verb and the numbers of a switch
switch_step : (most : ℕ) (v c l : List ℕ) (step : StepData) → switch_of most v c l ≡ Some step → IsStepText (most + 1) (spaced (v ∷ c ∷ l ∷ [])) step
switch_step most v c l step h =
    let a = and_then-some (λ n. option_and_then (λ m. verb_switch v n m) (number_of 255 l)) (number_of most c) step h in
    let b = and_then-some (λ m. verb_switch v a.0 m) (number_of 255 l) step a.2 in
    let channel = IsDecimal-number_of most a.0 c a.1 in
    let list = IsDecimal-number_of 255 b.0 l b.1 in
    verb_step most v c l step a.0 b.0 channel.0 (omega (arith, channel.1)) list.0 (omega (arith, list.1)) b.2

-- a switch has no image
verb_plain : (v : List ℕ) (n m : ℕ) (w : StepData) → verb_switch v n m ≡ Some w → with_image w ≡ Some w
verb_plain v n m w h = by_verb (is_verb v (codes "start")) (is_verb v (codes "stop")) h
  where
    by_verb : (a b : Bool) → (if a then Some (start n m) else if b then Some (stop n m) else None) ≡ Some w → with_image w ≡ Some w
    by_verb true b h = subst (λ s. with_image s ≡ Some s) (same_Some (start n m) w h) refl
    by_verb false true h = subst (λ s. with_image s ≡ Some s) (same_Some (stop n m) w h) refl
    by_verb false false h = cc h

switch_plain : (most : ℕ) (v c l : List ℕ) (w : StepData) → switch_of most v c l ≡ Some w → with_image w ≡ Some w
switch_plain most v c l w h =
    let a = and_then-some (λ n. option_and_then (λ m. verb_switch v n m) (number_of 255 l)) (number_of most c) w h in
    let b = and_then-some (λ m. verb_switch v a.0 m) (number_of 255 l) w a.2 in
    verb_plain v a.0 b.0 w b.2

-- a trigger's words and its image
trigger_step : (most : ℕ) (v c s i : List ℕ) (step : StepData) → option_and_then with_image (trigger_of most v c s i) ≡ Some step
    → IsStepText (most + 1) (spaced (v ∷ c ∷ s ∷ i ∷ [])) step
trigger_step most v c s i step h =
    let read = and_then-some with_image (trigger_of most v c s i) step h in
    let parts = if_then (is_verb v (codes "trigger")) (option_and_then (λ n. option_map (λ m. trigger n m i) (number_of 4294967295 s)) (number_of most c)) read.0 read.1 in
    let a = and_then-some (λ n. option_map (λ m. trigger n m i) (number_of 4294967295 s)) (number_of most c) read.0 parts.1 in
    let b = map-some (λ m. trigger a.0 m i) (number_of 4294967295 s) read.0 a.2 in
    let image : with_image (trigger a.0 b.0 i) ≡ Some step = ap with_image b.2 ∙ read.2 in
    let e = map-some (λ k. trigger a.0 b.0 k) (image_of i) step image in
    let channel = IsDecimal-number_of most a.0 c a.1 in
    let stamp = IsDecimal-number_of 4294967295 b.0 s b.1 in
    let seen : IsStepText (most + 1) (spaced (v ∷ c ∷ s ∷ i ∷ [])) (trigger a.0 b.0 e.0) = record {
      c = c;
      s = s;
      i = i;
      words = ap (λ w. spaced (w ∷ c ∷ s ∷ i ∷ [])) (same_verb v (codes "trigger") parts.0);
      channel_word = channel.0;
      below = omega (arith, channel.1);
      stamp_word = stamp.0;
      fits = omega (arith, stamp.1);
      image_word = IsImage-image_of i e.0 e.1;
    } in
    subst (IsStepText (most + 1) (spaced (v ∷ c ∷ s ∷ i ∷ []))) e.2 seen

-- the step of a text is one of the grammar
pub IsStepText-step_of_words : (most : ℕ) (words : List (List ℕ)) (step : StepData) → step_of_words most words ≡ Some step
    → IsStepText (most + 1) (spaced words) step
IsStepText-step_of_words most [] step h = cc h
IsStepText-step_of_words most (v ∷ []) step h =
    let read = and_then-some with_image (if is_verb v (codes "pump") then Some pump else None) step h in
    let p = if_some (is_verb v (codes "pump")) pump read.0 read.1 in
    let is : pump ≡ step = same_Some pump step (ap with_image p.1 ∙ read.2) in
    subst (IsStepText (most + 1) v) is (same_verb v (codes "pump") p.0)
IsStepText-step_of_words most (v ∷ c ∷ []) step h = cc h
IsStepText-step_of_words most (v ∷ c ∷ l ∷ []) step h =
    let read = and_then-some with_image (switch_of most v c l) step h in
    let is : read.0 ≡ step = same_Some read.0 step (sym (switch_plain most v c l read.0 read.1) ∙ read.2) in
    subst (IsStepText (most + 1) (spaced (v ∷ c ∷ l ∷ []))) is (switch_step most v c l read.0 read.1)
IsStepText-step_of_words most (v ∷ c ∷ s ∷ i ∷ []) step h = trigger_step most v c s i step h
IsStepText-step_of_words most (v ∷ c ∷ s ∷ i ∷ w ∷ ws) step h = cc h

pub IsStepText-step_of : (most : ℕ) (text : List ℕ) (step : StepData) → step_of most text ≡ Some step → IsStepText (most + 1) text step
IsStepText-step_of most text step h =
    subst (λ t. IsStepText (most + 1) t step) (spaced-words_of text) (IsStepText-step_of_words most (words_of text) step h)
