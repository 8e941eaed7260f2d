use Rattle.std.proofs.Common.{◌≡◌, ◌+◌, ◌<◌, ◌≤◌, ℕ, None, get_or, length}
use Rattle.std.specs.Option.{option_or}
use Rattle.datagrams.specs.Inner.{piece_shown}
use Rattle.datagrams.specs.Parts.{byte_in}
use Rattle.datagrams.proofs.slots.put.Given as goal

-- so many bytes of the piece were put
abbrev pub invariant-loop-j : goal.invariant-loop-j
invariant-loop-j l = record {
  many : length l.slots ≡ length l.initial.slots;
  done : (i : ℕ) → i < l.piece.at + l.j
      → get_or l.slots i None ≡ option_or (get_or l.initial.slots i None) (byte_in (piece_shown l.piece) i);
  rest : (i : ℕ) → l.piece.at + l.j ≤ i → get_or l.slots i None ≡ get_or l.initial.slots i None;
}
