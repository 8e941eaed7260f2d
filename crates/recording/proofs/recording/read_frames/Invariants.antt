-- the reader and the samples stand after what was read of the input, each read has room, and the
-- lists and what no sample changes stay
use Rattle.std.proofs.Common.{◌≡◌, length}
use Rattle.daq_reader.specs.Lists.{plans_of}
use Rattle.recording.specs.Pieces.{Passes, StandSomewhere}
use Rattle.recording.proofs.recording.read_frames.Given as goal

abbrev pub invariant-loop : goal.invariant-loop
invariant-loop g l = StandSomewhere l.reader (g.S.Samples.handed l.samples) × (length l.chunk ≡ 65536)
    × Passes l.fn.reader (g.S.Samples.handed l.fn.samples) l.reader (g.S.Samples.handed l.samples) (g.I.Read.remaining l.fn.input) (g.I.Read.remaining l.input) l.fn.piece l.piece
    × (plans_of l.reader ≡ plans_of l.fn.reader)
    × (g.S.Samples.kept l.samples ≡ g.S.Samples.kept l.fn.samples)
