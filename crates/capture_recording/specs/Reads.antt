-- What is read of a capture.
use Rattle.std.specs.Prelude.{ℕ, List, ◌++◌, Option, reverse}
use Rattle.std.specs.Io.KnownBytes.{Consumes, IsAtEnd}
use Rattle.std.specs.declared.net.ip_addr.IpAddr.{IpAddr}
use Rattle.capture.specs.Packets.{PacketOf}
use Rattle.capture.specs.Standing.{StandsAfter}
use Rattle.capture.specs.Units.{Known}
use Rattle.captured_samples.specs.Standing.{Told}
use Rattle.capture_recording.specs.Slaves.{AllTaken, SlavesOf}

module _ {K S : Type 0} where
  -- bytes of a capture were taken: whatever the reader stood after, it stands after these too, and
  -- the packets in them were taken
  abbrev pub TakesUnits :
      (S → List Told → Type 0) → (K → IpAddr → Type 0) → Known → Known
      → SlavesOf K S → SlavesOf K S → List ℕ → Type 0
  TakesUnits told reads from to old new bytes =
      (first : K) (before : List ℕ) (packets : List PacketOf) → StandsAfter from before packets
      → AllTaken told reads first (reverse packets) old
      → (all : List PacketOf) × StandsAfter to (before ++ bytes) all
      × AllTaken told reads first (reverse all) new

  -- a capture was read to its end: its bytes, the packets that stand in them, and all were taken
  pub record TakesCapture (told : S → List Told → Type 0)
      (reads : K → IpAddr → Type 0) (first : K) (old new : Option (List ℕ)) (slaves : SlavesOf K S)
      : Type 0 where
    -- fixed by `consumed` and `end`
    pub bytes : List ℕ
    pub consumed : Consumes old new bytes
    pub end : IsAtEnd new
    -- both are fixed by `stand`
    pub known : Known
    pub packets : List PacketOf
    pub stand : StandsAfter known bytes packets
    pub taken : AllTaken told reads first (reverse packets) slaves
