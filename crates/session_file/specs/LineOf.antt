-- The line that a text is, computed from it.
use Rattle.std.specs.Prelude.{ℕ, ◌==◌, ◌&&◌, not, if◌then◌else◌, List, [], ◌∷◌, length, codes}
use Rattle.std.specs.Prelude.{Option, Some, None, option_map}
use Rattle.run_file.specs.Keys.{onto}
use Rattle.run_file.specs.StepOf.{image_of, is_verb, number_of, packet_of, words_of}
use Rattle.session_file.specs.declared.limits.TheConstants.{ROOM}
use Rattle.session_file.specs.Lines.{LineData, master, memory, trigger, send, send_in, lose}
use Rattle.session_file.specs.Lines.{hang_up}

-- the line of one word
abbrev pub word_line : List ℕ → Option LineData
word_line verb =
    if is_verb verb (codes "send") then Some send
    else if is_verb verb (codes "lose") then Some lose
    else if is_verb verb (codes "hang_up") then Some hang_up
    else if is_verb verb (codes "master") then Some (master []) else None

-- the line of a verb and the digits of a packet
abbrev pub master_line : List ℕ → List ℕ → Option LineData
master_line verb digits =
    if is_verb verb (codes "master") && not (length digits == 0)
    then option_map master (packet_of digits) else None

-- the line of the digits of a room
abbrev pub send_line : List ℕ → Option LineData
send_line digits = option_map send_in (number_of ROOM digits)

-- the line of a verb and one word behind it
abbrev pub one_word_line : List ℕ → List ℕ → Option LineData
one_word_line verb word =
    if is_verb verb (codes "send") then send_line word else master_line verb word

-- the slice of a word
abbrev pub slice_of : List ℕ → Option (List ℕ)
slice_of word = if is_verb word (codes "-") then Some [] else image_of word

-- the slices of words
abbrev pub slices_of : List (List ℕ) → Option (List (List ℕ))
slices_of [] = Some []
slices_of (word ∷ words) = onto (slice_of word) (slices_of words)

-- the line of the words of memory
abbrev pub memory_line : List (List ℕ) → Option LineData
memory_line words = option_map memory (slices_of words)

-- a trigger, if each part of it is there
abbrev pub trigger_with : Option ℕ → Option ℕ → Option (List (List ℕ)) → Option LineData
trigger_with (Some c) (Some s) (Some slices) = Some (trigger c s slices)
trigger_with _ _ _ = None

-- the line of a verb, an event channel, a timestamp and the words of memory
abbrev pub trigger_line : List ℕ → List ℕ → List ℕ → List (List ℕ) → Option LineData
trigger_line verb channel stamp words =
    if is_verb verb (codes "trigger")
    then trigger_with (number_of 255 channel) (number_of 4294967295 stamp) (slices_of words)
    else None

-- the line of a verb, which isn't `memory`, and of the words behind it
abbrev pub other_line : List ℕ → List (List ℕ) → Option LineData
other_line verb [] = None
other_line verb (word ∷ []) = one_word_line verb word
other_line verb (channel ∷ stamp ∷ []) = None
other_line verb (channel ∷ stamp ∷ word ∷ words) = trigger_line verb channel stamp (word ∷ words)

-- the line of a verb and of the words behind it
abbrev pub verb_line : List ℕ → List (List ℕ) → Option LineData
verb_line verb words =
    if is_verb verb (codes "memory") then memory_line words else other_line verb words

-- the line of some words
abbrev pub line_of_words : List (List ℕ) → Option LineData
line_of_words [] = None
line_of_words (verb ∷ []) = word_line verb
line_of_words (verb ∷ word ∷ words) = verb_line verb (word ∷ words)

-- the line of a text
abbrev pub line_of : List ℕ → Option LineData
line_of text = line_of_words (words_of text)
