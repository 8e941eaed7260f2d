use Rattle.slave_channels.specs.Calls.{Ends}
use Rattle.slave_channels.specs.Inner.{IsFront}
use Rattle.slave_channels.proofs.channels.Channels.end.Given as goal

-- the channels so far have ended
abbrev pub invariant-loop-c : goal.invariant-loop-c
invariant-loop-c l = IsFront (λ c. Ends) l.c l.fn.self l.self-inside.all.items
