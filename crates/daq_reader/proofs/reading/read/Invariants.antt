use Rattle.std.proofs.Common.{◌≡◌, List, ℕ, length}
use Rattle.daq_reader.specs.Lists.{Stands, plans_of}
use Rattle.daq_reader.specs.Reads.{HasRead}
use Rattle.daq_reader.specs.Recorded.{Recorded}
use Rattle.daq_reader.specs.Recording.{IsRecordingOf}
use Rattle.daq_reader.proofs.RecordingLemmas.{IsWithin}
use Rattle.daq_reader.proofs.reading.read.Given as goal

-- the frames so far were read; of a recording of whole samples, what is left is one; the lists and
-- what no sample changes stay
abbrev pub invariant-loop : goal.invariant-loop
invariant-loop g l =
    ((qs : List (List ℕ)) → Stands l.fn.reader qs (g.S.Samples.handed l.fn.samples)
    → HasRead l.reader qs (g.S.Samples.handed l.samples) l.fn.unread l.unread)
    × ((before : List (List ℕ)) (written : List (ℕ × Recorded))
    → Stands l.fn.reader before (g.S.Samples.handed l.fn.samples)
    → IsRecordingOf (plans_of l.fn.reader) written before l.fn.unread
    → IsWithin written l.reader (g.S.Samples.handed l.samples) l.unread)
    × (plans_of l.reader ≡ plans_of l.fn.reader)
    × (g.S.Samples.kept l.samples ≡ g.S.Samples.kept l.fn.samples)

-- each frame has bytes
abbrev pub decreases-loop : goal.decreases-loop
decreases-loop g l = length l.unread.rest
