-- The step and the command packet that a text is, computed from it.
use Rattle.std.specs.Prelude.{ℕ, ◌*◌, ◌==◌, ◌&&◌, Bool, not, nat_le, nat_lt, if◌then◌else◌, List}
use Rattle.std.specs.Prelude.{[], ◌∷◌, length, slice_index, codes, Option, Some, None, option_map}
use Rattle.std.specs.Prelude.{option_and_then, Result, Ok, Err}
use Rattle.std.specs.List.{slice_split}
use Rattle.std.specs.Str.{all_ascii_digits, bytes_eq}
use Rattle.std.specs.Str.Parse.{digits_value}
use Rattle.hex.specs.declared.error.FromHexError.{FromHexError}
use Rattle.hex.specs.Hex.{decode_of}
use Rattle.run_file.specs.declared.limits.TheConstants.{MAX_COMMAND_LEN}
use Rattle.run_file.specs.Steps.{StepData, trigger, start, stop, pump}

-- a byte is a space
abbrev pub is_space : ℕ → Bool
is_space b = b == 32

-- the words between the spaces of a text
abbrev pub words_of : List ℕ → List (List ℕ)
words_of text = slice_split is_space text

-- decimal digits, with no zero in front of other digits
abbrev pub is_plain : List ℕ → Bool
is_plain word =
    nat_lt 0 (length word)
    && (not (nat_lt 1 (length word) && slice_index word 0 == 48) && all_ascii_digits word)

-- the number of a word, if it is at most `most`
abbrev pub number_of : ℕ → List ℕ → Option ℕ
number_of most word =
    if is_plain word && nat_le (digits_value 10 word) most
    then Some (digits_value 10 word)
    else None

-- the bytes that were decoded
abbrev pub decoded : Result (List ℕ) FromHexError → Option (List ℕ)
decoded (Ok bytes) = Some bytes
decoded (Err e) = None

-- the bytes of a word in hexadecimal
abbrev pub bytes_of : List ℕ → Option (List ℕ)
bytes_of word = decoded (decode_of word)

-- the same, if they aren't too many for a command packet
abbrev pub packet_of : List ℕ → Option (List ℕ)
packet_of text = if nat_le (length text) (2 * MAX_COMMAND_LEN) then bytes_of text else None

-- the same, if there is a byte
abbrev pub image_of : List ℕ → Option (List ℕ)
image_of word = if length word == 0 then None else bytes_of word

-- a word is this verb
abbrev pub is_verb : List ℕ → List ℕ → Bool
is_verb word verb = bytes_eq word verb

abbrev pub pump_of : List ℕ → Option StepData
pump_of verb = if is_verb verb (codes "pump") then Some pump else None

abbrev pub verb_switch : List ℕ → ℕ → ℕ → Option StepData
verb_switch verb c l =
    if is_verb verb (codes "start") then Some (start c l)
    else if is_verb verb (codes "stop") then Some (stop c l)
    else None

abbrev pub switch_of : ℕ → List ℕ → List ℕ → List ℕ → Option StepData
switch_of most verb channel list =
    option_and_then (λ c. option_and_then (λ l. verb_switch verb c l) (number_of 255 list))
    (number_of most channel)

-- with the word of its image in place of the image
abbrev pub trigger_of : ℕ → List ℕ → List ℕ → List ℕ → List ℕ → Option StepData
trigger_of most verb channel stamp word =
    if is_verb verb (codes "trigger")
    then option_and_then (λ c. option_map (λ s. trigger c s word) (number_of 4294967295 stamp))
    (number_of most channel)
    else None

-- the step of some words, for event channels from 0 to `most`, with the word of an image in place
-- of the image
abbrev pub wording_of_words : ℕ → List (List ℕ) → Option StepData
wording_of_words most (verb ∷ []) = pump_of verb
wording_of_words most (verb ∷ channel ∷ list ∷ []) = switch_of most verb channel list
wording_of_words most (verb ∷ channel ∷ stamp ∷ word ∷ []) = trigger_of most verb channel stamp word
wording_of_words most _ = None

-- the same of a text
abbrev pub wording_of : ℕ → List ℕ → Option StepData
wording_of most text = wording_of_words most (words_of text)

-- the image in place of its word
abbrev pub with_image : StepData → Option StepData
with_image (trigger c s word) = option_map (λ image. trigger c s image) (image_of word)
with_image (start c l) = Some (start c l)
with_image (stop c l) = Some (stop c l)
with_image pump = Some pump

-- the step of some words, for event channels from 0 to `most`
abbrev pub step_of_words : ℕ → List (List ℕ) → Option StepData
step_of_words most words = option_and_then with_image (wording_of_words most words)

-- the step of a text, for event channels from 0 to `most`
abbrev pub step_of : ℕ → List ℕ → Option StepData
step_of most text = step_of_words most (words_of text)
