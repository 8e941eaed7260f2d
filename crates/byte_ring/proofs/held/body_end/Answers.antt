use Rattle.std.proofs.Common.{arith, ◌-◌, drop}
use Rattle.byte_ring.proofs.HeldLemmas.{least_body-none}
use Rattle.byte_ring.proofs.held.body_end.Goals as goal

-- no packet is left
pub returns : goal.returns
returns c =
    omega (arith, c.loop.invariant.0, least_body-none (c.args.count - c.loop.counter) (drop c.loop.end c.args.bytes.now) (omega (arith, c.loop-test.false, c.loop.auto.counter-end)))
