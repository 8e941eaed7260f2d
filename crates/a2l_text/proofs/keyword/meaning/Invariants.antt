use Rattle.std.proofs.Common.{◌≡◌, map, drop}
use Rattle.a2l_text.specs.Keywords.{meaning}
use Rattle.a2l_text.proofs.keyword.meaning.Given as goal

-- the word is none of the keywords in front
abbrev pub invariant-loop-keyword : goal.invariant-loop-keyword
invariant-loop-keyword g l = meaning (map (λ row. (row.0.now, row.1)) (drop l.keyword-index l.table)) l.word ≡ meaning (map (λ row. (row.0.now, row.1)) l.table) l.word
