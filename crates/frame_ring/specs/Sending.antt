-- Frames without a number, laid out and numbered.
use Rattle.std.specs.Prelude.{◌≡◌, ℕ, ◌+◌, ◌<◌, ◌≤◌, All, List, length, take}
use Rattle.channel_ring.specs.Making.{IsPacket}
use Rattle.frame_writer.specs.Frame.{unnumbered}
use Rattle.frame_ring.specs.declared.fitting.Front.{Front}

-- these bytes are the frames of these packets, of which there are so many
pub record AreFramesOf (bytes : List ℕ) (count : ℕ) (packets : List (List ℕ)) : Type 0 where
  pub each : All IsPacket packets
  pub are : bytes ≡ unnumbered packets
  pub many : count ≡ length packets

-- these bytes are the frames of so many packets
pub record AreFrames (bytes : List ℕ) (count : ℕ) : Type 0 where
  pub packets : List (List ℕ)
  pub of : AreFramesOf bytes count packets

-- the frames of the first packets find room, and those of one more don't
pub record FrontFits (packets : List (List ℕ)) (room : ℕ) (front : Front) : Type 0 where
  pub some : front.count ≤ length packets
  pub bytes : front.len ≡ length (unnumbered (take front.count packets))
  pub fits : front.len ≤ room
  pub most :
      front.count < length packets
      → room < length (unnumbered (take (front.count + 1) packets))
