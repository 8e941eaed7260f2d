use Rattle.std.proofs.Common.{◌≡◌, ◌++◌, drop}
use Rattle.c_slave.specs.Profiles.{text_of}
use Rattle.c_slave.proofs.profiles.text_of.Given as goal

-- the bytes so far, with the text of the others, are the text
abbrev pub invariant-loop-k : goal.invariant-loop-k
invariant-loop-k l = l.text.items ++ text_of (drop l.k l.name) ≡ text_of l.name
