use Rattle.std.proofs.Common.{◌≡◌, ◌-◌, ◌^◌, min, take}
use Rattle.datagrams.specs.TcpStreams.{held}
use Rattle.datagrams.proofs.tcp_stream.held.Given as goal

abbrev pub invariant-loop-i : goal.invariant-loop-i
invariant-loop-i l = l.held ≡ min (held (take l.i l.came)) (2 ^ 64 - 1)
