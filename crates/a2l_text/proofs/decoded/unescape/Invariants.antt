use Rattle.std.proofs.Common.{◌≡◌, ◌++◌, length}
use Rattle.a2l_text.specs.Texts.{unescaped}
use Rattle.a2l_text.proofs.decoded.unescape.Given as goal

-- the bytes so far, and those of the rest
abbrev pub invariant-loop-byte : goal.invariant-loop-byte
invariant-loop-byte l = l.bytes.items ++ unescaped l.rest ≡ unescaped l.quoted

abbrev pub decreases-loop-byte : goal.decreases-loop-byte
decreases-loop-byte l = length l.rest
