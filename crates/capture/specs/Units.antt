-- What stands in a capture behind what was read of it: a header, a record or a block.
use Rattle.std.specs.Prelude.{◌≡◌, ℕ, ◌<◌, ◌≤◌, Bool, true, false}
use Rattle.std.specs.Prelude.{List, [], ◌∷◌, ◌++◌, take, length, slice_get, Option, Some, None}
use Rattle.measured_values.specs.declared.byte_order.ByteOrder.{ByteOrder}
use Rattle.capture.specs.Blocks.{IsBlock, IsEnhanced, IsInterface, IsSectionHeader, IsSimple}
use Rattle.capture.specs.Blocks.{begins_section, kind_of, order_told}
use Rattle.capture.specs.Numbers.{field}
use Rattle.capture.specs.Packets.{PacketOf, packet_of}
use Rattle.capture.specs.Pcap.{IsHeader, IsRecord, record_packet}
use Rattle.capture.specs.declared.block_kind.BlockKind.{BlockKind}
use Rattle.capture.specs.declared.block_kind.BlockKind.TheVariants.{EnhancedPacket, SimplePacket}
use Rattle.capture.specs.declared.block_kind.BlockKind.TheVariants.{InterfaceDescription, Other}
use Rattle.capture.specs.declared.block_kind.BlockKind.TheVariants.{SectionHeader}
use Rattle.capture.specs.declared.capture_fault.CaptureFault.{CaptureFault}
use Rattle.capture.specs.declared.capture_fault.CaptureFault.TheVariants.{Bad, Long, ManyInterfaces}
use Rattle.capture.specs.declared.capture_fault.CaptureFault.TheVariants.{Memory, NoCapture}
use Rattle.capture.specs.declared.format.Format.{Format}
use Rattle.capture.specs.declared.format.Format.TheVariants.{Pcap, Pcapng}
use Rattle.capture.specs.declared.interface.Interface.{Interface}
use Rattle.capture.specs.declared.limits.TheConstants.{MAX_INTERFACES, MAX_UNIT}
use Rattle.capture.specs.declared.pcap_header.PcapHeader.{PcapHeader}
use Rattle.capture.specs.declared.step.Step.{Step}
use Rattle.capture.specs.declared.step.Step.TheVariants.{Packet, Passed, Wants}

-- what a reader knows: the format, once it was seen, and the interfaces of the section
pub record Known : Type 0 where
  pub format : Option Format
  pub interfaces : List Interface

-- a block of this kind, in a section of these interfaces: the packets of it, and the interfaces
-- then
abbrev pub Says :
    BlockKind → ByteOrder → List Interface → List ℕ → List PacketOf → List Interface → Type 0
Says SectionHeader order old b own new = ⊥
Says InterfaceDescription order old b own new =
    (i : Interface) × (own ≡ []) × (new ≡ old ++ i ∷ []) × IsInterface order b i
Says SimplePacket order old b own new =
    (i : Interface) × (p : PacketOf) × (own ≡ p ∷ []) × (new ≡ old)
    × (slice_get old 0 ≡ Some i) × IsSimple order b i p
Says EnhancedPacket order old b own new =
    (i : Interface) × (p : PacketOf) × (own ≡ p ∷ []) × (new ≡ old)
    × (slice_get old (field order 4 8 b) ≡ Some i) × IsEnhanced order b i p
Says Other order old b own new = (own ≡ []) × (new ≡ old)

-- a section begins with this block
pub record BeginsSection (b : List ℕ) (own : List PacketOf) (new : Known) : Type 0 where
  pub block : IsBlock (order_told b) b
  pub header : IsSectionHeader (order_told b) b
  pub none : own ≡ []
  pub now : new ≡ record { format = Some (Pcapng (order_told b)); interfaces = [] }

-- it goes on with this one
pub record GoesOn (order : ByteOrder) (old : List Interface) (b : List ℕ) (own : List PacketOf)
    (new : Known)
    : Type 0 where
  pub block : IsBlock order b
  pub format : new.format ≡ Some (Pcapng order)
  pub says : Says (kind_of (field order 4 0 b)) order old b own new.interfaces

abbrev pub IsNextBlock :
    Bool → ByteOrder → List Interface → List ℕ → List PacketOf → Known → Type 0
IsNextBlock true order old b own new = BeginsSection b own new
IsNextBlock false order old b own new = GoesOn order old b own new

-- a file of libpcap begins with this header
pub record BeginsPcap (old : List Interface) (unit : List ℕ) (own : List PacketOf) (new : Known)
    : Type 0 where
  -- fixed by `is`
  pub header : PcapHeader
  pub is : IsHeader header unit
  pub none : own ≡ []
  pub now : new ≡ record { format = Some (Pcap header); interfaces = old }

abbrev pub BeginsWith : Bool → List Interface → List ℕ → List PacketOf → Known → Type 0
BeginsWith true old unit own new = BeginsSection unit own new
BeginsWith false old unit own new = BeginsPcap old unit own new

abbrev pub IsNextIn : Option Format → List Interface → List ℕ → List PacketOf → Known → Type 0
IsNextIn None old unit own new = BeginsWith (begins_section unit) old unit own new
IsNextIn (Some (Pcap h)) old unit own new =
    IsRecord h unit × (own ≡ record_packet h unit ∷ [])
    × (new ≡ record { format = Some (Pcap h); interfaces = old })
IsNextIn (Some (Pcapng order)) old unit own new =
    IsNextBlock (begins_section unit) order old unit own new

-- to a reader that knows so much, this is the next header, record or block, with the packets of it,
-- and what is known then
abbrev pub IsNext : Known → List ℕ → List PacketOf → Known → Type 0
IsNext old unit own new = IsNextIn old.format old.interfaces unit own new

-- however the bytes go on, what stands next in front of them has this length
abbrev pub NextHas : (ℕ → Type 0) → Known → List ℕ → Type 0
NextHas IsLen old bytes =
    (more unit behind : List ℕ) (own : List PacketOf) (new : Known)
    → bytes ++ more ≡ unit ++ behind → IsNext old unit own new → IsLen (length unit)

-- a step over bytes: a packet and what it stands in, or what holds none, was taken; or so many
-- bytes are wanted at least, and nothing changed
abbrev pub Steps : Known → Known → List ℕ → Step → Type 0
Steps old new bytes (Packet n p) =
    (0 < n) × (n ≤ length bytes) × IsNext old (take n bytes) (packet_of p ∷ []) new
Steps old new bytes (Passed n) = (0 < n) × (n ≤ length bytes) × IsNext old (take n bytes) [] new
Steps old new bytes (Wants n) =
    (length bytes < n) × (n ≤ MAX_UNIT) × (new ≡ old) × NextHas (λ len. n ≤ len) old bytes

-- a whole block that describes an interface stands next in a section: the only one that takes
-- memory
pub record MeetsInterface (old : Known) (bytes : List ℕ) : Type 0 where
  pub order : ByteOrder
  pub within_section : old.format ≡ Some (Pcapng order)
  pub goes_on : begins_section bytes ≡ false
  -- fixed by `block`, which says its length
  pub len : ℕ
  pub within : len ≤ length bytes
  pub block : IsBlock order (take len bytes)
  pub kind : kind_of (field order 4 0 (take len bytes)) ≡ InterfaceDescription
  -- fixed by `is`
  pub interface : Interface
  pub is : IsInterface order (take len bytes) interface

-- why a step is refused
abbrev pub RefusesStep : Known → List ℕ → CaptureFault → Type 0
RefusesStep old bytes Memory = MeetsInterface old bytes
RefusesStep old bytes ManyInterfaces =
    (MAX_INTERFACES ≤ length old.interfaces) × MeetsInterface old bytes
RefusesStep old bytes Long = NextHas (λ len. MAX_UNIT < len) old bytes
RefusesStep old bytes NoCapture = (old.format ≡ None) × NextHas (λ len. ⊥) old bytes
RefusesStep old bytes Bad = NextHas (λ len. ⊥) old bytes
