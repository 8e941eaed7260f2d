-- What no public clause cites: how `Packets` keeps its packets in one body.
use Rattle.std.specs.Prelude.{◌≡◌, ℕ, ◌+◌, ◌≤◌, List, ◌∷◌, ◌++◌, length, drop}
use Rattle.xcp_base.specs.declared.limits.TheConstants.{MAX_ODTS}
use Rattle.xcp_base.specs.declared.packets.Packets.TheInside.{Inside}
use Rattle.xcp_base.specs.Bodies.{body_of, packets_of_body}
use Rattle.xcp_base.specs.Packets.{ArePackets, IsPacket}

-- the packets that are kept
abbrev pub packets_view : Inside → List (List ℕ)
packets_view a = packets_of_body a.count a.body

-- the body is that of the packets, of which there are at most MAX_ODTS
pub record IsBody (a : Inside) : Type 0 where
  pub body : a.body ≡ body_of (packets_view a)
  pub count : length (packets_view a) ≡ a.count
  pub room : a.count ≤ MAX_ODTS
  pub each : ArePackets (packets_view a)

-- some bytes begin with a packet behind its length
pub record BeginsWithPacket (bytes : List ℕ) : Type 0 where
  pub packet : List ℕ
  pub rest : List ℕ
  pub is_packet : IsPacket packet
  pub is : bytes ≡ length packet ∷ (packet ++ rest)

-- a packet begins at a place, behind its length, and ends at another
pub record EndsAt (bytes : List ℕ) (start stop : ℕ) : Type 0 where
  pub packet : List ℕ
  pub is_packet : IsPacket packet
  pub is : drop start bytes ≡ length packet ∷ (packet ++ drop stop bytes)
  pub next : stop ≡ start + 1 + length packet
  pub within : stop ≤ length bytes

-- the bytes are the body of so many packets
pub record HasPackets (number : ℕ) (bytes : List ℕ) : Type 0 where
  pub packets : List (List ℕ)
  pub body : bytes ≡ body_of packets
  pub count : length packets ≡ number
  pub each : ArePackets packets

-- the same of the bytes in front of a place
pub record HasFront (number stop : ℕ) (bytes : List ℕ) : Type 0 where
  pub packets : List (List ℕ)
  pub body : bytes ≡ body_of packets ++ drop stop bytes
  pub count : length packets ≡ number
  pub each : ArePackets packets
  pub within : stop ≤ length bytes

-- all packets of a body, which has a byte at least for each
abbrev pub packets_in : List ℕ → List (List ℕ)
packets_in bytes = packets_of_body (length bytes) bytes

-- the bytes are the body of some packets
pub record IsWholeBody (bytes : List ℕ) : Type 0 where
  pub whole : bytes ≡ body_of (packets_in bytes)
