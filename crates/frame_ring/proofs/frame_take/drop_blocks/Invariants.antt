use Rattle.frame_ring.specs.Inner.{PopsFront}
use Rattle.frame_ring.proofs.frame_take.drop_blocks.Given as goal

-- so many are popped so far
abbrev pub invariant-loop : goal.invariant-loop
invariant-loop l = PopsFront l.counter l.fn.consumer l.consumer
