use Rattle.std.proofs.Common.{subst}
use Rattle.daq_reader.specs.Reads.{IsFaultOf}
use Rattle.recording.specs.Pieces.{unread_of}
use Rattle.recording.proofs.recording.take_whole.Goals as goal

-- a torn frame is one that isn't whole yet
pub returns-clause-none : goal.returns-clause-none
returns-clause-none g c =
    (subst (λ why. IsFaultOf c.take_frames.new.reader (unread_of c.take_frames.new.piece) why) (c.is_final.ensures.0 c.if-is_final.false).0 c.in-Err.ensures.fault).1
