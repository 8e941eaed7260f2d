use Rattle.std.proofs.Common.{◌≡◌, ℕ, List, length, take}
use Rattle.frame_writer.specs.Frame.{unnumbered}
use Rattle.frame_ring.specs.Sending.{AreFramesOf}
use Rattle.frame_ring.proofs.fitting.front_len.Given as goal

-- those of the frames so far
abbrev pub invariant-loop-k : goal.invariant-loop-k
invariant-loop-k l =
    (packets : List (List ℕ)) → AreFramesOf l.frames l.count packets → l.len ≡ length (unnumbered (take l.k packets))
