use Rattle.slave_channels.specs.Channels.{keeps_within}
use Rattle.slave_channels.specs.Inner.{KeepNone}
use Rattle.slave_channels.proofs.channels.Channels.has_parts_within.Given as goal

-- the channels so far keep none
abbrev pub invariant-loop-c : goal.invariant-loop-c
invariant-loop-c l = KeepNone (keeps_within l.from l.to) l.self-inside.all.items l.c
