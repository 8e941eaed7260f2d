use Rattle.slave_channels.specs.Calls.{StartsAt}
use Rattle.slave_channels.specs.Inner.{IsFront}
use Rattle.slave_channels.proofs.channels.Channels.start_checked.Given as goal

-- the starts at the channels so far were ordered
abbrev pub invariant-loop-c : goal.invariant-loop-c
invariant-loop-c l = IsFront (StartsAt l.lists) l.c l.fn.self l.self-inside.all.items
