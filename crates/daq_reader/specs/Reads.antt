-- What a reader has read of a recording: the packets of its frames, and the samples that were
-- handed over; and why it reads no further.
use Rattle.std.specs.Prelude.{◌≡◌, ℕ, ◌+◌, ◌%◌, All, List, ◌++◌, length, Some}
use Rattle.frame_writer.specs.Frame.{text}
use Rattle.frame_writer.specs.Split.{Fits}
use Rattle.daq_reader.specs.declared.read_fault.ReadFault.{ReadFault}
use Rattle.daq_reader.specs.declared.read_fault.ReadFault.TheVariants.{Frame, Packet}
use Rattle.daq_reader.specs.Frames.{IsFrameFaultOf, IsNext, Unread}
use Rattle.daq_reader.specs.Lists.{Stands, refusal}
use Rattle.daq_reader.specs.Reading.{Reading}
use Rattle.daq_reader.specs.Recorded.{Recorded}

-- behind the packets `qs` the frames of some more were read, and the lists and the samples stand
-- after all of them
pub record HasRead (lists : List Reading) (qs : List (List ℕ)) (samples : List (ℕ × Recorded))
    (before now : Unread)
    : Type 0 where
  -- fixed by `bytes`
  pub read : List (List ℕ)
  pub legal : All Fits read
  pub bytes : before.rest ≡ text before.counter read ++ now.rest
  pub counter : now.counter % 65536 ≡ (before.counter + length read) % 65536
  pub stands : Stands lists (qs ++ read) samples

-- a recording is read no further for this: the bytes that are left don't begin with the next frame;
-- or they do, and its packet is refused for this
abbrev pub IsFaultOf : List Reading → Unread → ReadFault → Type 0
IsFaultOf lists left (Frame fault) = IsFrameFaultOf left fault
IsFaultOf lists left (Packet fault) =
    (q : List ℕ) × (behind : Unread) × IsNext left behind q × (refusal lists q ≡ Some fault)
