-- The grammar of a script and the function that computes it agree.
use Rattle.std.proofs.Common.{◌≡◌, ◌<◌, ◌*◌, ◌==◌, ◌&&◌, not, ℕ, Bool, true, false, if◌then◌else◌, List, [], ◌∷◌, length, get_or, codes, Option, Some, None, option_map, refl, sym, ap, ◌∙◌, subst, arith, ne_eqb}
use Rattle.std.specs.List.{All}
use Rattle.std.specs.Str.{all_ascii_digits}
use Rattle.std.proofs.lemmas.Bool.{and_parts}
use Rattle.std.proofs.lemmas.List.Elements.{All-from_get_or, All-from_recursion}
use Rattle.std.proofs.lemmas.List.Splits.{slice_split_none, slice_split_at}
use Rattle.std.proofs.lemmas.Option.{same_Some}
use Rattle.std.proofs.lemmas.Str.Parse.{numerals_by_value, tells_all_ascii_digits, not_in_digits}
use Rattle.hex.proofs.HexLemmas.{decode_of-ok}
use Rattle.run_file.specs.Keys.{onto}
use Rattle.run_file.specs.Reading.{AreTextsOf, HasNone}
use Rattle.run_file.specs.RunFile.{IsPacketText}
use Rattle.run_file.specs.StepOf.{image_of, is_space, is_verb, number_of, packet_of, words_of}
use Rattle.run_file.specs.Steps.{IsDecimal, IsImage, spaced}
use Rattle.run_file.proofs.KeyLemmas.{onto-some}
use Rattle.run_file.proofs.RunLemmas.{packet_of-IsPacketText, packet_read, some_is_none}
use Rattle.run_file.proofs.StepLaw.{IsDecimal-number_of, IsImage-image_of, if_then, map-some, same_verb, spaced-words_of}
use Rattle.run_file.proofs.WordLemmas.{has_word}
use Rattle.run_file.proofs.StepWhole.{image_of-image, image_one_word, number_of-decimal}
use Rattle.session_file.specs.Lines.{IsLineText, IsMaster, IsMemory, IsSlice, IsSendIn, IsTrigger, LineData, master, memory, trigger, send, send_in, lose, hang_up}
use Rattle.session_file.specs.declared.limits.TheConstants.{ROOM}
use Rattle.session_file.specs.LineOf.{line_of, line_of_words, master_line, memory_line, one_word_line, other_line, send_line, slice_of, slices_of, trigger_line, trigger_with, verb_line, word_line}

-- what is read of one word is a line of the grammar
word_read : (verb : List ℕ) (line : LineData) → word_line verb ≡ Some line → IsLineText verb line
word_read verb line h =
    by_word (is_verb verb (codes "send")) (is_verb verb (codes "lose")) (is_verb verb (codes "hang_up")) (is_verb verb (codes "master")) refl refl refl refl h
  where
    by_word : (a b c d : Bool) → is_verb verb (codes "send") ≡ a → is_verb verb (codes "lose") ≡ b → is_verb verb (codes "hang_up") ≡ c → is_verb verb (codes "master") ≡ d
        → (if a then Some send else if b then Some lose else if c then Some hang_up else if d then Some (master []) else None) ≡ Some line
        → IsLineText verb line
    by_word true b c d ea eb ec ed h = subst (IsLineText verb) (same_Some send line h) (same_verb verb (codes "send") ea)
    by_word false true c d ea eb ec ed h = subst (IsLineText verb) (same_Some lose line h) (same_verb verb (codes "lose") eb)
    by_word false false true d ea eb ec ed h = subst (IsLineText verb) (same_Some hang_up line h) (same_verb verb (codes "hang_up") ec)
    by_word false false false true ea eb ec ed h = subst (IsLineText verb) (same_Some (master []) line h) (same_verb verb (codes "master") ed)
    by_word false false false false ea eb ec ed h = cc h

some_digits : (digits : List ℕ) → not (length digits == 0) ≡ true → 0 < length digits
some_digits [] h = cc h
some_digits (b ∷ digits) h = omega arith

-- digits are those of a byte at least
in_words : (verb digits packet : List ℕ) → verb ≡ codes "master" → IsPacketText digits packet → 0 < length digits
    → IsMaster (spaced (verb ∷ digits ∷ [])) packet
in_words verb digits [] e is some =
    let twice : length digits ≡ 2 * 0 = (decode_of-ok digits [] is.digits).2 in
    absurd (omega (arith, some, twice))
in_words verb digits (b ∷ packet) e is some = (digits, ap (λ w. spaced (w ∷ digits ∷ [])) e, is)

master_read : (verb digits : List ℕ) (line : LineData) → master_line verb digits ≡ Some line → IsLineText (spaced (verb ∷ digits ∷ [])) line
master_read verb digits line h =
    let parts = if_then (is_verb verb (codes "master") && not (length digits == 0)) (option_map master (packet_of digits)) line h in
    let tested = and_parts (is_verb verb (codes "master")) (not (length digits == 0)) parts.0 in
    let read = map-some master (packet_of digits) line parts.1 in
    subst (IsLineText (spaced (verb ∷ digits ∷ []))) read.2
    (in_words verb digits read.0 (same_verb verb (codes "master") tested.0) (packet_read digits read.0 read.1) (some_digits digits tested.1))

-- a word that is read is a slice
some_image : (word slice : List ℕ) → IsImage word slice → IsSlice word slice
some_image word [] is = absurd (let some = is.some in omega (arith, some))
some_image word (b ∷ slice) is = is

slice_read : (word slice : List ℕ) → slice_of word ≡ Some slice → IsSlice word slice
slice_read word slice h = by_dash (is_verb word (codes "-")) refl h
  where
    by_dash : (b : Bool) → is_verb word (codes "-") ≡ b → (if b then Some [] else image_of word) ≡ Some slice → IsSlice word slice
    by_dash true e h = subst (IsSlice word) (same_Some [] slice h) (same_verb word (codes "-") e)
    by_dash false e h = some_image word slice (IsImage-image_of word slice h)

slices_read : (words slices : List (List ℕ)) → slices_of words ≡ Some slices → AreTextsOf IsSlice words slices
slices_read [] slices h = subst (AreTextsOf IsSlice []) (same_Some [] slices h) tt
slices_read (word ∷ words) slices h =
    let parts = onto-some (slice_of word) (slices_of words) slices h in
    subst (AreTextsOf IsSlice (word ∷ words)) (sym parts.4) (slice_read word parts.0 parts.2, slices_read words parts.1 parts.3)

memory_read : (first : List ℕ) (more : List (List ℕ)) (line : LineData) → memory_line (first ∷ more) ≡ Some line
    → IsLineText (spaced (codes "memory" ∷ first ∷ more)) line
memory_read first more line h =
    let read = map-some memory (slices_of (first ∷ more)) line h in
    let is : IsMemory (spaced (codes "memory" ∷ first ∷ more)) read.0 =
    record { first = first; more = more; words = refl; slices_are = slices_read (first ∷ more) read.0 read.1 } in
    subst (IsLineText (spaced (codes "memory" ∷ first ∷ more))) read.2 is

-- the parts of a trigger
with_read : (c s : Option ℕ) (o : Option (List (List ℕ))) (line : LineData) → trigger_with c s o ≡ Some line
    → (n : ℕ) × (m : ℕ) × (slices : List (List ℕ)) × (c ≡ Some n) × (s ≡ Some m) × (o ≡ Some slices) × (trigger n m slices ≡ line)
with_read None s o line h = cc h
with_read (Some n) None o line h = cc h
with_read (Some n) (Some m) None line h = cc h
with_read (Some n) (Some m) (Some slices) line h = (n, m, slices, refl, refl, refl, same_Some (trigger n m slices) line h)

trigger_read : (verb c s first : List ℕ) (more : List (List ℕ)) (line : LineData) → trigger_line verb c s (first ∷ more) ≡ Some line
    → IsLineText (spaced (verb ∷ c ∷ s ∷ first ∷ more)) line
trigger_read verb c s first more line h =
    let parts = if_then (is_verb verb (codes "trigger")) (trigger_with (number_of 255 c) (number_of 4294967295 s) (slices_of (first ∷ more))) line h in
    let read = with_read (number_of 255 c) (number_of 4294967295 s) (slices_of (first ∷ more)) line parts.1 in
    let channel = IsDecimal-number_of 255 read.0 c read.3 in
    let stamp = IsDecimal-number_of 4294967295 read.1 s read.4 in
    let is : IsTrigger (spaced (verb ∷ c ∷ s ∷ first ∷ more)) read.0 read.1 read.2 = record {
      c = c;
      s = s;
      first = first;
      more = more;
      words = ap (λ v. spaced (v ∷ c ∷ s ∷ first ∷ more)) (same_verb verb (codes "trigger") parts.0);
      channel_word = channel.0;
      below = omega (arith, channel.1);
      stamp_word = stamp.0;
      fits = omega (arith, stamp.1);
      slices_are = slices_read (first ∷ more) read.2 read.5;
    } in
    subst (IsLineText (spaced (verb ∷ c ∷ s ∷ first ∷ more))) read.6 is

send_read : (word : List ℕ) (line : LineData) → send_line word ≡ Some line → IsLineText (spaced (codes "send" ∷ word ∷ [])) line
send_read word line h =
    let read = map-some send_in (number_of ROOM word) line h in
    let number = IsDecimal-number_of ROOM read.0 word read.1 in
    let is : IsSendIn (spaced (codes "send" ∷ word ∷ [])) read.0 = record { word = word; words = refl; number = number.0; fits = number.1 } in
    subst (IsLineText (spaced (codes "send" ∷ word ∷ []))) read.2 is

one_read : (verb word : List ℕ) (line : LineData) → one_word_line verb word ≡ Some line → IsLineText (spaced (verb ∷ word ∷ [])) line
one_read verb word line h = by_verb (is_verb verb (codes "send")) refl h
  where
    by_verb : (b : Bool) → is_verb verb (codes "send") ≡ b → (if b then send_line word else master_line verb word) ≡ Some line → IsLineText (spaced (verb ∷ word ∷ [])) line
    by_verb true e h = subst (λ v. IsLineText (spaced (v ∷ word ∷ [])) line) (sym (same_verb verb (codes "send") e)) (send_read word line h)
    by_verb false e h = master_read verb word line h

other_read : (verb word : List ℕ) (words : List (List ℕ)) (line : LineData) → other_line verb (word ∷ words) ≡ Some line
    → IsLineText (spaced (verb ∷ word ∷ words)) line
other_read verb word [] line h = one_read verb word line h
other_read verb c (s ∷ []) line h = cc h
other_read verb c (s ∷ first ∷ more) line h = trigger_read verb c s first more line h

verb_read : (verb word : List ℕ) (words : List (List ℕ)) (line : LineData) → verb_line verb (word ∷ words) ≡ Some line
    → IsLineText (spaced (verb ∷ word ∷ words)) line
verb_read verb word words line h = by_verb (is_verb verb (codes "memory")) refl h
  where
    by_verb : (b : Bool) → is_verb verb (codes "memory") ≡ b → (if b then memory_line (word ∷ words) else other_line verb (word ∷ words)) ≡ Some line
        → IsLineText (spaced (verb ∷ word ∷ words)) line
    by_verb true e h = subst (λ v. IsLineText (spaced (v ∷ word ∷ words)) line) (sym (same_verb verb (codes "memory") e)) (memory_read word words line h)
    by_verb false e h = other_read verb word words line h

IsLineText-line_of_words : (words : List (List ℕ)) (line : LineData) → line_of_words words ≡ Some line → IsLineText (spaced words) line
IsLineText-line_of_words [] line h = cc h
IsLineText-line_of_words (verb ∷ []) line h = word_read verb line h
IsLineText-line_of_words (verb ∷ word ∷ words) line h = verb_read verb word words line h

-- a text of which the function gives a line is the text of that one
pub line_read : (text : List ℕ) (line : LineData) → line_of text ≡ Some line → IsLineText text line
line_read text line h = subst (λ t. IsLineText t line) (spaced-words_of text) (IsLineText-line_of_words (words_of text) line h)

no_space_in_master : All (λ b. is_space b ≡ false) (codes "master")
no_space_in_master = All-from_recursion (λ b. is_space b ≡ false) (codes "master") (refl, (refl, (refl, (refl, (refl, (refl, tt))))))

-- and each text of a line is one of which the function gives it
line_of-master : (text : List ℕ) (b : ℕ) (packet : List ℕ) → IsMaster text (b ∷ packet) → line_of text ≡ Some (master (b ∷ packet))
line_of-master text b packet is =
    let word = is.0 in
    let image : IsImage word (b ∷ packet) = record { digits = is.2.digits; some = omega arith } in
    let long : length word ≡ 2 * length (b ∷ packet) = (decode_of-ok word (b ∷ packet) is.2.digits).2 in
    let some : (length word == 0) ≡ false = ne_eqb (length word) 0 (λ e. omega (arith, e, long)) in
    let words : words_of text ≡ codes "master" ∷ word ∷ [] =
    ap words_of is.1 ∙ slice_split_at is_space (codes "master") 32 word no_space_in_master refl
    ∙ ap (λ ws. codes "master" ∷ ws) (slice_split_none is_space word (image_one_word word (b ∷ packet) image)) in
    let read : packet_of word ≡ Some (b ∷ packet) = packet_of-IsPacketText word (b ∷ packet) is.2 in
    rw (words, some, read) refl

no_space_in_memory : All (λ b. is_space b ≡ false) (codes "memory")
no_space_in_memory = All-from_recursion (λ b. is_space b ≡ false) (codes "memory") (refl, (refl, (refl, (refl, (refl, (refl, tt))))))

no_dash : (word : List ℕ) (b : ℕ) (image : List ℕ) → IsImage word (b ∷ image) → is_verb word (codes "-") ≡ false
no_dash word b image is =
    let long : length word ≡ 2 * length (b ∷ image) = (decode_of-ok word (b ∷ image) is.digits).2 in
    by_test (is_verb word (codes "-")) refl long
  where
    by_test : (t : Bool) → is_verb word (codes "-") ≡ t → length word ≡ 2 * length (b ∷ image) → t ≡ false
    by_test true e long =
        let one : length word ≡ 1 = ap length (same_verb word (codes "-") e) in
        absurd (omega (arith, one, long))
    by_test false e long = refl

-- a slice is read
slice_of-slice : (word slice : List ℕ) → IsSlice word slice → slice_of word ≡ Some slice
slice_of-slice word [] is = ap slice_of is
slice_of-slice word (b ∷ slice) is =
    let read : image_of word ≡ Some (b ∷ slice) = image_of-image word (b ∷ slice) is in
    ap (λ (t : Bool). if t then Some [] else image_of word) (no_dash word b slice is) ∙ read

slices_of-slices : (words slices : List (List ℕ)) → AreTextsOf IsSlice words slices → slices_of words ≡ Some slices
slices_of-slices [] [] are = refl
slices_of-slices [] (slice ∷ slices) are = absurd are
slices_of-slices (word ∷ words) [] are = absurd are
slices_of-slices (word ∷ words) (slice ∷ slices) are =
    ap (λ o. onto o (slices_of words)) (slice_of-slice word slice are.0) ∙ ap (onto (Some slice)) (slices_of-slices words slices are.1)

no_space_in_dash : All (λ b. is_space b ≡ false) (codes "-")
no_space_in_dash = All-from_recursion (λ b. is_space b ≡ false) (codes "-") (refl, tt)

-- and has no space
one_word : (word slice : List ℕ) → IsSlice word slice → All (λ b. is_space b ≡ false) word
one_word word [] is = subst (All (λ b. is_space b ≡ false)) (sym is) no_space_in_dash
one_word word (b ∷ slice) is = image_one_word word (b ∷ slice) is

words_of-slices : (first : List ℕ) (more slices : List (List ℕ)) → AreTextsOf IsSlice (first ∷ more) slices
    → words_of (spaced (first ∷ more)) ≡ first ∷ more
words_of-slices first more [] are = absurd are
words_of-slices first [] (slice ∷ slices) are = slice_split_none is_space first (one_word first slice are.0)
words_of-slices first (word ∷ more) (slice ∷ slices) are =
    slice_split_at is_space first 32 (spaced (word ∷ more)) (one_word first slice are.0) refl
    ∙ ap (λ ws. first ∷ ws) (words_of-slices word more slices are.1)

line_of-memory : (text : List ℕ) (slices : List (List ℕ)) → IsMemory text slices → line_of text ≡ Some (memory slices)
line_of-memory text slices is =
    let words : words_of text ≡ codes "memory" ∷ is.first ∷ is.more =
    ap words_of is.words ∙ slice_split_at is_space (codes "memory") 32 (spaced (is.first ∷ is.more)) no_space_in_memory refl
    ∙ ap (λ ws. codes "memory" ∷ ws) (words_of-slices is.first is.more slices is.slices_are) in
    ap line_of_words words ∙ ap (option_map memory) (slices_of-slices (is.first ∷ is.more) slices is.slices_are)

-- a number has no space
decimal_one_word : (word : List ℕ) (n : ℕ) → IsDecimal word n → All (λ b. is_space b ≡ false) word
decimal_one_word word n d =
    let own = numerals_by_value (λ ds. all_ascii_digits ds ≡ true) tells_all_ascii_digits in
    All-from_get_or (λ b. is_space b ≡ false) word 0
    (λ i l. ne_eqb (get_or word i 0) 32 (not_in_digits own word 32 (own.from word d.digits.1) (λ r. omega (arith, r)) i l))

no_space_in_send : All (λ b. is_space b ≡ false) (codes "send")
no_space_in_send = All-from_recursion (λ b. is_space b ≡ false) (codes "send") (refl, (refl, (refl, (refl, tt))))

line_of-send_in : (text : List ℕ) (room : ℕ) → IsSendIn text room → line_of text ≡ Some (send_in room)
line_of-send_in text room is =
    let words : words_of text ≡ codes "send" ∷ is.word ∷ [] =
    ap words_of is.words ∙ slice_split_at is_space (codes "send") 32 is.word no_space_in_send refl
    ∙ ap (λ ws. codes "send" ∷ ws) (slice_split_none is_space is.word (decimal_one_word is.word room is.number)) in
    ap line_of_words words ∙ ap (option_map send_in) (number_of-decimal ROOM room is.word is.number is.fits)

no_space_in_trigger : All (λ b. is_space b ≡ false) (codes "trigger")
no_space_in_trigger = All-from_recursion (λ b. is_space b ≡ false) (codes "trigger") (refl, (refl, (refl, (refl, (refl, (refl, (refl, tt)))))))

line_of-trigger : (text : List ℕ) (n m : ℕ) (slices : List (List ℕ)) → IsTrigger text n m slices → line_of text ≡ Some (trigger n m slices)
line_of-trigger text n m slices is =
    let behind = slices_of (is.first ∷ is.more) in
    let words : words_of text ≡ codes "trigger" ∷ is.c ∷ is.s ∷ is.first ∷ is.more =
    ap words_of is.words ∙ slice_split_at is_space (codes "trigger") 32 (spaced (is.c ∷ is.s ∷ is.first ∷ is.more)) no_space_in_trigger refl
    ∙ ap (λ ws. codes "trigger" ∷ ws) (slice_split_at is_space is.c 32 (spaced (is.s ∷ is.first ∷ is.more)) (decimal_one_word is.c n is.channel_word) refl
    ∙ ap (λ ws. is.c ∷ ws) (slice_split_at is_space is.s 32 (spaced (is.first ∷ is.more)) (decimal_one_word is.s m is.stamp_word) refl
    ∙ ap (λ ws. is.s ∷ ws) (words_of-slices is.first is.more slices is.slices_are))) in
    ap line_of_words words
    ∙ ap (λ o. trigger_with o (number_of 4294967295 is.s) behind) (number_of-decimal 255 n is.c is.channel_word (omega (arith, is.below)))
    ∙ ap (λ o. trigger_with (Some n) o behind) (number_of-decimal 4294967295 m is.s is.stamp_word (omega (arith, is.fits)))
    ∙ ap (trigger_with (Some n) (Some m)) (slices_of-slices (is.first ∷ is.more) slices is.slices_are)

line_of-IsLineText : (text : List ℕ) (line : LineData) → IsLineText text line → line_of text ≡ Some line
line_of-IsLineText text (master []) is = ap line_of is
line_of-IsLineText text (master (b ∷ packet)) is = line_of-master text b packet is
line_of-IsLineText text (trigger c s slices) is = line_of-trigger text c s slices is
line_of-IsLineText text (memory slices) is = line_of-memory text slices is
line_of-IsLineText text send is = ap line_of is
line_of-IsLineText text (send_in room) is = line_of-send_in text room is
line_of-IsLineText text lose is = ap line_of is
line_of-IsLineText text hang_up is = ap line_of is

pub no_line : (text : List ℕ) → line_of text ≡ None → HasNone (IsLineText text)
no_line text none line is = some_is_none (line_of text) line (line_of-IsLineText text line is) none

-- behind a verb stands a word at least
pub verb_words : (text rest verb : List ℕ) → words_of text ≡ verb ∷ words_of rest → verb_line verb (words_of rest) ≡ line_of text
verb_words text rest verb first =
    let some = has_word rest in
    let words : words_of text ≡ verb ∷ some.0 ∷ some.1 = first ∙ ap (λ ws. verb ∷ ws) some.2 in
    ap (verb_line verb) some.2 ∙ sym (ap line_of_words words)

-- and behind a timestamp one
pub trigger_words : (verb text rest behind channel stamp : List ℕ) → words_of text ≡ channel ∷ words_of rest → words_of rest ≡ stamp ∷ words_of behind
    → trigger_line verb channel stamp (words_of behind) ≡ other_line verb (words_of text)
trigger_words verb text rest behind channel stamp first second =
    let some = has_word behind in
    let words : words_of text ≡ channel ∷ stamp ∷ some.0 ∷ some.1 = first ∙ ap (λ ws. channel ∷ ws) (second ∙ ap (λ ws. stamp ∷ ws) some.2) in
    ap (trigger_line verb channel stamp) some.2 ∙ sym (ap (other_line verb) words)
