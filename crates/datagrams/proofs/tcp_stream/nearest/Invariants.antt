use Rattle.datagrams.specs.Inner.{IsNearestOf}
use Rattle.datagrams.proofs.tcp_stream.nearest.Given as goal

abbrev pub invariant-loop-i : goal.invariant-loop-i
invariant-loop-i l = IsNearestOf l.came l.i l.number l.nearest
