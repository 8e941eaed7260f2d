use Rattle.std.proofs.Common.{◌≡◌, drop}
use Rattle.xcp_base.specs.Bodies.{body_of}
use Rattle.xcp_base.proofs.packets.Packets.get.Given as goal

-- what is left is the body from this packet on
abbrev pub invariant-loop : goal.invariant-loop
invariant-loop l = l.rest ≡ body_of (drop l.counter l.self)
