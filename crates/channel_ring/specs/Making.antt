-- The samples that may be offered to a ring, by their packets.
use Rattle.std.specs.Prelude.{ℕ, ◌+◌, ◌*◌, ◌<◌, ◌≤◌, All, List, length}
use Rattle.xcp_base.specs.declared.limits.TheConstants.{MAX_DTO, MAX_ODTS, MAX_ODTS_IN_ALL}
use Rattle.xcp_base.specs.declared.limits.TheConstants.{MAX_PACKET}
use Rattle.frame_writer.specs.Frame.{unnumbered}

-- a packet of 1 to MAX_PACKET bytes
pub record IsPacket (packet : List ℕ) : Type 0 where
  pub some : 0 < length packet
  pub fits : length packet ≤ MAX_PACKET

-- the packets of a sample
pub record ArePackets (packets : List (List ℕ)) : Type 0 where
  pub some : 0 < length packets
  pub few : length packets ≤ MAX_ODTS_IN_ALL
  pub each : All IsPacket packets

-- the most packets of a sample, the longest packet, and the most bytes of a sample's frames
pub record SampleLimit : Type 0 where
  pub count : ℕ
  pub packet : ℕ
  pub frames : ℕ

-- the packet is at most so long
abbrev pub IsShort : ℕ → List ℕ → Type 0
IsShort most packet = length packet ≤ most

-- packets keep to a limit
pub record FitsSample (limit : SampleLimit) (packets : List (List ℕ)) : Type 0 where
  pub few : length packets ≤ limit.count
  pub short : All (IsShort limit.packet) packets
  pub frames : length (unnumbered packets) ≤ limit.frames

-- a limit admits what the other one admits
pub record IsUpTo (a b : SampleLimit) : Type 0 where
  pub count : a.count ≤ b.count
  pub packet : a.packet ≤ b.packet
  pub frames : a.frames ≤ b.frames

-- the limit of samples whose packets find room in a value of fixed size; a frame has four bytes
-- before its packet
abbrev pub by_value : SampleLimit
by_value = record {
  count = MAX_ODTS;
  packet = MAX_DTO;
  frames = MAX_ODTS * (4 + MAX_DTO);
}
