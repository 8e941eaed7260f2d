use Rattle.std.proofs.Common.{◌≡◌, drop, map, string_bytes}
use Rattle.program_input.specs.Versions.{asks_version}
use Rattle.program_input.proofs.versions.asks_version.Given as goal

-- the arguments so far tell nothing
abbrev pub invariant-loop-word : goal.invariant-loop-word
invariant-loop-word l = asks_version (map string_bytes l.words)
    ≡ asks_version (map string_bytes (drop l.word-index l.words))
