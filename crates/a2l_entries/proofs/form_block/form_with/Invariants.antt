use Rattle.std.proofs.Common.{◌≡◌, length}
use Rattle.a2l_entries.specs.Said.{tokens_of}
use Rattle.a2l_entries.specs.FormSaid.{form_with}
use Rattle.a2l_entries.proofs.form_block.form_with.Given as goal

-- what was told so far, with the words that are left, is what all words tell
abbrev pub invariant-loop-word : goal.invariant-loop-word
invariant-loop-word l = form_with l.form (tokens_of l.rest) ≡ form_with l.fn.form (tokens_of l.words)

abbrev pub decreases-loop-word : goal.decreases-loop-word
decreases-loop-word l = length l.rest.words.now
