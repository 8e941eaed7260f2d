-- What the packets of a capture say: the datagrams and segments that they carry, of which some come
-- in parts.
use Rattle.std.specs.Prelude.{◌≡◌, ◌⊎◌, ℕ, List, [], ◌∷◌, ◌++◌, drop, length}
use Rattle.std.specs.Prelude.{Option, Some, None, MatchOption}
use Rattle.capture.specs.Packets.{PacketOf}
use Rattle.datagrams.specs.Ip.{IpOf}
use Rattle.datagrams.specs.Ipv6.{CarriedOf, IsChain}
use Rattle.datagrams.specs.LinkTypes.{link_of}
use Rattle.datagrams.specs.Links.{CarriesIp}
use Rattle.datagrams.specs.Parts.{IsWhole, KeyOf, PieceOf, WaitOf, key_of, part_within, piece_of}
use Rattle.datagrams.specs.Parts.{pieces_under, too_many, with_piece, without}
use Rattle.datagrams.specs.Versions.{IsIp}
use Rattle.datagrams.specs.Waiting.{WholeOf}
use Rattle.datagrams.specs.declared.ip_packet.Part.{Part}

-- a captured packet has this IP packet in it
pub record HasIp (p : PacketOf) (ip : IpOf) : Type 0 where
  -- fixed by `carries`
  pub bytes : List ℕ
  pub carries : CarriesIp (link_of p.link) p.bytes bytes
  pub is : IsIp bytes ip

-- what it carries
abbrev pub data_in : IpOf → WholeOf
data_in ip = record {
  from = ip.from;
  to = ip.to;
  protocol = ip.protocol;
  payload = ip.payload;
}

-- headers of version 6 that extend others stand in front of what is carried
pub record IsExtended (d e : WholeOf) : Type 0 where
  pub from : length d.from ≡ 16
  -- both are fixed by `chain`
  pub lens : List ℕ
  pub carried : CarriedOf
  pub chain : IsChain d.protocol d.payload lens carried
  pub whole : carried.part ≡ None
  pub is :
      e ≡ record {
        from = d.from;
        to = d.to;
        protocol = carried.protocol;
        payload = carried.payload;
      }

-- this is carried, behind such headers if there are some
abbrev pub IsBehind : WholeOf → WholeOf → Type 0
IsBehind d e = IsExtended d e ⊎ (((x : WholeOf) → IsExtended d x → ⊥) × (e ≡ d))

-- with a part that came, a datagram is whole, or isn't; what waits for other parts then
abbrev pub JoinsPiece :
    List WaitOf → KeyOf → PieceOf → Option WholeOf → List WaitOf → Type 0
JoinsPiece waits key p None later =
    ((bytes : List ℕ) → IsWhole (pieces_under key waits ++ p ∷ []) bytes → ⊥)
    × (later ≡ drop (too_many (with_piece key p waits)) (with_piece key p waits))
JoinsPiece waits key p (Some d) later =
    IsWhole (pieces_under key waits ++ p ∷ []) d.payload × (d.from ≡ key.from)
    × (d.to ≡ key.to) × (d.protocol ≡ key.protocol) × (later ≡ without key waits)

-- a part that ends beyond the longest datagram counts for nothing
abbrev pub Joins : List WaitOf → IpOf → Option WholeOf → List WaitOf → Type 0
Joins waits ip d later =
    MatchOption (part_within ip) ((d ≡ None) × (later ≡ waits))
    (λ part. JoinsPiece waits (key_of ip part) (piece_of ip part) d later)

-- what an IP packet says: what it carries, if that isn't a part of a datagram
abbrev pub SaysIp : Option Part → IpOf → List WaitOf → Option WholeOf → List WaitOf → Type 0
SaysIp None ip waits d later = (d ≡ Some (data_in ip)) × (later ≡ waits)
SaysIp (Some part) ip waits d later = Joins waits ip d later

-- what a captured packet says, where these parts waited, and what waits then
abbrev pub Says : PacketOf → List WaitOf → Option WholeOf → List WaitOf → Type 0
Says p waits d later =
    ((ip : IpOf) × HasIp p ip × SaysIp ip.part ip waits d later)
    ⊎ (((ip : IpOf) → HasIp p ip → ⊥) × (d ≡ None) × (later ≡ waits))

abbrev pub AndSaid : Option WholeOf → List WholeOf → List WholeOf → Type 0
AndSaid None before all = all ≡ before
AndSaid (Some d) before all = (e : WholeOf) × IsBehind d e × (all ≡ e ∷ before)

-- what packets said, and what waits behind them; both with the newest in front
abbrev pub Said : List PacketOf → List WaitOf → List WholeOf → Type 0
Said [] waits said = (waits ≡ []) × (said ≡ [])
Said (p ∷ ps) waits said =
    (w : List WaitOf) × (before : List WholeOf) × (d : Option WholeOf)
    × Said ps w before × Says p w d waits × AndSaid d before said
