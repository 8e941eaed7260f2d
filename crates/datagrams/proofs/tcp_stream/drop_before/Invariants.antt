use Rattle.std.proofs.Common.{◌≡◌, ℕ, ◌-◌, ◌<◌, true, Some, length}
use Rattle.std.specs.List.{filter, slice_get}
use Rattle.datagrams.specs.TcpStreams.{StretchOf, goes_beyond}
use Rattle.datagrams.proofs.tcp_stream.drop_before.Given as goal

-- those before this place stay, and what was let go of is none of what is kept
abbrev pub invariant-loop-i : goal.invariant-loop-i
invariant-loop-i l = record {
  same : filter (goes_beyond l.number) l.came.items ≡ filter (goes_beyond l.number) l.initial.came.items;
  stay : (j : ℕ) (c : StretchOf) → j < l.i → slice_get l.came.items j ≡ Some c → goes_beyond l.number c ≡ true;
}

abbrev pub decreases-loop-i : goal.decreases-loop-i
decreases-loop-i l = length l.came.items - l.i
