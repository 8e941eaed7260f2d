use Rattle.std.proofs.Common.{◌-◌, length}
use Rattle.datagrams.specs.Inner.{HasWalked}
use Rattle.datagrams.proofs.ipv6.carried_in.Given as goal

-- the headers before this place were read
abbrev pub invariant-loop-next : goal.invariant-loop-next
invariant-loop-next l = HasWalked l.fn.first l.bytes l.next l.at

abbrev pub decreases-loop-next : goal.decreases-loop-next
decreases-loop-next l = length l.bytes - l.at
