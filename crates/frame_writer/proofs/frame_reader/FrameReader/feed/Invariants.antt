use Rattle.std.proofs.Common.{◌≡◌, [], take, false}
use Rattle.frame_writer.specs.Reading.{Leads}
use Rattle.frame_writer.proofs.frame_reader.FrameReader.feed.Given as goal

-- the bytes so far led here, and ended no frame
abbrev pub invariant-loop-i : goal.invariant-loop-i
invariant-loop-i l = record {
  still_open : l.self.closed ≡ false;
  leads : Leads l.fn.self l.self (take l.i l.bytes) [];
}
