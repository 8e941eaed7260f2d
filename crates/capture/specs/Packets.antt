-- A packet that was captured.
use Rattle.std.specs.Prelude.{ℕ, List, Option}
use Rattle.capture.specs.declared.capture_time.CaptureTime.{CaptureTime}
use Rattle.capture.specs.declared.captured.Captured.{Captured}

-- its link type, its time, if it has one, how many bytes it had, and those of them that were kept
pub record PacketOf : Type 0 where
  pub link : ℕ
  pub time : Option CaptureTime
  pub original : ℕ
  pub bytes : List ℕ

abbrev pub packet_of : Captured → PacketOf
packet_of p = record { link = p.link; time = p.time; original = p.original; bytes = p.bytes.now }
