use Rattle.std.proofs.Common.{◌≡◌, drop, map}
use Rattle.run_file.specs.Keys.{is_among}
use Rattle.session_file.proofs.keys.is_among.Given as goal

-- the word is none of those in front
abbrev pub invariant-loop-one : goal.invariant-loop-one
invariant-loop-one l = is_among (map (λ w. w.now) (drop l.one-index l.words)) l.word ≡ is_among (map (λ w. w.now) l.words) l.word
