use Rattle.std.proofs.Common.{◌≡◌, length, map, vec_items}
use denote.Shadow.{shadow}
use denote.Text.{Utf8}
use Rattle.run_file.specs.StepOf.{words_of}
use Rattle.session_file.specs.LineOf.{slices_of}
use Rattle.session_file.proofs.SliceLemmas.{onto_all}
use Rattle.session_file.proofs.words.slices_of.Given as goal

-- the slices so far stand before those of the rest
abbrev pub invariant-loop-word : goal.invariant-loop-word
invariant-loop-word l =
    shadow (Utf8 l.rest)
    × (onto_all (map vec_items l.slices.items) (slices_of (words_of l.rest)) ≡ slices_of (words_of l.text))

abbrev pub decreases-loop-word : goal.decreases-loop-word
decreases-loop-word l = length (words_of l.rest)
