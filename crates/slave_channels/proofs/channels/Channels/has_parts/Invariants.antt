use Rattle.slave_channels.specs.Channels.{keeps_part}
use Rattle.slave_channels.specs.Inner.{KeepNone}
use Rattle.slave_channels.proofs.channels.Channels.has_parts.Given as goal

-- the channels so far keep none
abbrev pub invariant-loop-c : goal.invariant-loop-c
invariant-loop-c l = KeepNone keeps_part l.self-inside.all.items l.c
