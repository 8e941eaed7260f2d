use Rattle.std.proofs.Common.{◌≡◌, ℕ, ◌≤◌, List, length, take}
use Rattle.frame_writer.specs.Frame.{unnumbered}
use Rattle.frame_ring.specs.Sending.{AreFramesOf}
use Rattle.frame_ring.proofs.fitting.front_that_fits.Given as goal

-- the frames so far find room
abbrev pub invariant-loop-k : goal.invariant-loop-k
invariant-loop-k l =
    (l.len ≤ l.room)
    × ((packets : List (List ℕ)) → AreFramesOf l.frames l.count packets → l.len ≡ length (unnumbered (take l.k packets)))
