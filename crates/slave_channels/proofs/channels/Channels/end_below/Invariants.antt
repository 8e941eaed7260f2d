use Rattle.slave_channels.specs.Inner.{EndsAt, IsFront}
use Rattle.slave_channels.proofs.channels.Channels.end_below.Given as goal

-- the channels so far have ended
abbrev pub invariant-loop-c : goal.invariant-loop-c
invariant-loop-c l = IsFront (EndsAt l.lists) l.c l.fn.self l.self-inside.all.items
