use Rattle.slave_channels.specs.Calls.{NoneRefuses, OpensAt}
use Rattle.slave_channels.specs.Inner.{IsFront}
use Rattle.slave_channels.proofs.channels.Channels.open.Given as goal

-- the channels so far were opened, and none of them refused
abbrev pub invariant-loop-c : goal.invariant-loop-c
invariant-loop-c l =
    IsFront (OpensAt l.store l.number l.caps l.lists) l.c l.fn.self l.self × NoneRefuses l.lists l.fn.self l.c
