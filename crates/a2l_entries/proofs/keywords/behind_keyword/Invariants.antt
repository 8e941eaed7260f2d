use Rattle.std.proofs.Common.{◌≡◌, map, drop}
use Rattle.a2l_entries.specs.Said.{token_at}
use Rattle.a2l_entries.specs.Keywords.{behind_keyword}
use Rattle.a2l_entries.proofs.keywords.behind_keyword.Given as goal

-- the keyword isn't among the words in front
abbrev pub invariant-loop-place : goal.invariant-loop-place
invariant-loop-place l = behind_keyword l.keyword (map token_at (drop l.place l.left.words.now)) ≡ behind_keyword l.keyword (map token_at l.left.words.now)
