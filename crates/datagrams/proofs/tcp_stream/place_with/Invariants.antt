use Rattle.datagrams.specs.Inner.{HasNone}
use Rattle.datagrams.proofs.tcp_stream.place_with.Given as goal

-- none before this place has it
abbrev pub invariant-loop-i : goal.invariant-loop-i
invariant-loop-i l = HasNone l.came l.i l.number
