-- The packets of a recording, frame by frame (XCP on Ethernet, header).
use Rattle.std.specs.Prelude.{◌≡◌, ◌≢◌, ℕ, ◌+◌, ◌%◌, List, [], ◌++◌}
use Rattle.frame_writer.specs.Frame.{IsFrame, frame}
use Rattle.daq_reader.specs.declared.frame_fault.FrameFault.{FrameFault}
use Rattle.daq_reader.specs.declared.frame_fault.FrameFault.TheVariants.{Jump, Torn}

-- the bytes that are still to be read, and the counter of the next frame
pub record Unread : Type 0 where
  pub rest : List ℕ
  pub counter : ℕ

-- the next packet, and what is to be read behind it
pub record IsNext (a b : Unread) (q : List ℕ) : Type 0 where
  pub legal : IsFrame (a.counter, q)
  pub bytes : a.rest ≡ frame a.counter q ++ b.rest
  pub counter : b.counter ≡ (a.counter + 1) % 65536

-- a whole frame comes next
pub record HasFrame (a : Unread) (n : ℕ) : Type 0 where
  -- fixed by `bytes`
  pub packet : List ℕ
  pub behind : List ℕ
  pub legal : IsFrame (n, packet)
  pub bytes : a.rest ≡ frame n packet ++ behind

-- the bytes that are left don't begin with the next frame for this: there are some, and no whole
-- frame stands in front; or one does, with another counter
abbrev pub IsFrameFaultOf : Unread → FrameFault → Type 0
IsFrameFaultOf left Torn = (left.rest ≢ []) × ((n : ℕ) → ¬ HasFrame left n)
IsFrameFaultOf left Jump = (n : ℕ) × (n ≢ left.counter) × HasFrame left n
