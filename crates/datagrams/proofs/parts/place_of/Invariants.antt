use Rattle.std.proofs.Common.{◌≡◌, ◌<◌, ℕ, false, Some}
use Rattle.std.specs.List.{slice_get}
use Rattle.datagrams.specs.Ip.{ip_of}
use Rattle.datagrams.specs.Parts.{key_of, same_key}
use Rattle.datagrams.specs.Waiting.{KeptOf}
use Rattle.datagrams.proofs.parts.place_of.Given as goal

-- none of those before this place is of that key
abbrev pub invariant-loop-i : goal.invariant-loop-i
invariant-loop-i l = (j : ℕ) (k : KeptOf) → j < l.i → slice_get l.waiting j ≡ Some k → same_key (key_of (ip_of l.packet) l.part) k.key ≡ false
