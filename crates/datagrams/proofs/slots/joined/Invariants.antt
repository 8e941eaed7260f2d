use Rattle.std.proofs.Common.{◌≡◌, ◌<◌, ℕ, None, get_or, length, slice_get}
use Rattle.std.specs.Option.{option_or}
use Rattle.datagrams.specs.Inner.{piece_shown}
use Rattle.datagrams.specs.Parts.{byte_in}
use Rattle.datagrams.proofs.slots.joined.Given as goal

-- what came at so many places was taken
abbrev pub invariant-loop-i : goal.invariant-loop-i
invariant-loop-i l = record {
  many : length l.bytes.items ≡ l.i;
  each : (k : ℕ) → k < l.i → option_or (get_or l.slots k None) (byte_in (piece_shown l.piece) k) ≡ slice_get l.bytes.items k;
}
