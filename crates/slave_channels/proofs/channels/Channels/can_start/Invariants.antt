use Rattle.slave_channels.specs.Inner.{IsFront}
use Rattle.slave_channels.proofs.CallLemmas.{FindsPlaces}
use Rattle.slave_channels.proofs.channels.Channels.can_start.Given as goal

-- the starts at the channels so far find places
abbrev pub invariant-loop-c : goal.invariant-loop-c
invariant-loop-c l = IsFront (FindsPlaces l.lists) l.c l.fn.self l.self-inside.all.items
