use Rattle.std.proofs.Common.{◌≢◌, All, take}
use Rattle.mdf_file.proofs.texts.check.Given as goal

-- no byte so far is 0
abbrev pub invariant-loop-byte : goal.invariant-loop-byte
invariant-loop-byte l = All (λ b. b ≢ 0) (take l.byte-index l.byte-items)
