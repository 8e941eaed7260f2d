-- the numbers so far and those of the words that are left are all
use Rattle.std.proofs.Common.{◌≡◌, ◌++◌, drop, map}
use Rattle.a2l_entries.specs.Said.{token_at}
use Rattle.a2l_entries.specs.Dimensions.{numbers_said}
use Rattle.a2l_entries.proofs.dimensions.numbers_in.Given as goal

abbrev pub invariant-loop-word : goal.invariant-loop-word
invariant-loop-word l =
    l.numbers.items ++ numbers_said (map token_at (drop l.word-index l.left.words.now))
    ≡ numbers_said (map token_at l.left.words.now)
