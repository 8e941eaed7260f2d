use Rattle.std.proofs.Common.{ℕ, ◌+◌, ◌%◌, ◌^◌, ◌<◌, ◌≤◌}
use Rattle.datagrams.specs.Inner.{HasNone}
use Rattle.datagrams.proofs.tcp_stream.len_before.Given as goal

-- none before this place has one of so many bytes
abbrev pub invariant-loop-i : goal.invariant-loop-i
invariant-loop-i l = record {
  some : 0 < l.len;
  few : l.len ≤ l.most;
  none : (k : ℕ) → k < l.len → HasNone l.came l.i ((l.number + k) % 2 ^ 32);
}
