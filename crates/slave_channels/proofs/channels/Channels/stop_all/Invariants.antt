use Rattle.slave_channels.specs.Calls.{StopsAll}
use Rattle.slave_channels.specs.Inner.{IsFront}
use Rattle.slave_channels.proofs.channels.Channels.stop_all.Given as goal

-- the stops at the channels so far were ordered
abbrev pub invariant-loop-c : goal.invariant-loop-c
invariant-loop-c l = IsFront (λ c. StopsAll l.lists) l.c l.fn.self l.self-inside.all.items
