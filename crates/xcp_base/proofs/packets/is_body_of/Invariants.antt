use Rattle.xcp_base.specs.Inner.{HasFront}
use Rattle.xcp_base.proofs.packets.is_body_of.Given as goal

-- the packets so far
abbrev pub invariant-loop : goal.invariant-loop
invariant-loop l = HasFront l.counter l.end l.body
