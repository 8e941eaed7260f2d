use Rattle.std.proofs.Common.{◌≡◌, ℕ, List, ◌++◌, drop, length, take}
use Rattle.frame_writer.specs.Frame.{text}
use Rattle.frame_writer.specs.Frame.{unnumbered}
use Rattle.frame_ring.specs.Sending.{AreFramesOf}
use Rattle.frame_ring.proofs.fitting.number.Given as goal

-- the frames so far are numbered
abbrev pub invariant-loop-k : goal.invariant-loop-k
invariant-loop-k l =
    (length l.frames ≡ length l.fn.frames)
    × ((packets : List (List ℕ)) → AreFramesOf l.fn.frames l.count packets
    → (l.at ≡ length (unnumbered (take l.k packets)))
    × (l.frames ≡ text l.counter (take l.k packets) ++ unnumbered (drop l.k packets)))
