use Rattle.slave_channels.specs.Inner.{HaveRoomBelow}
use Rattle.slave_channels.proofs.channels.Channels.can_open.Given as goal

-- at the channels so far there is room
abbrev pub invariant-loop-c : goal.invariant-loop-c
invariant-loop-c l = HaveRoomBelow l.lists l.self-inside.all.items l.c
