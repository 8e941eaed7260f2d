-- What a reader stands after: the bytes that it took, and the packets that stand in them.
use Rattle.std.specs.Prelude.{◌≡◌, ℕ, Bool, true, false, if◌then◌else◌, nat_eq}
use Rattle.std.specs.Prelude.{List, [], ◌∷◌, ◌++◌, take, map, filter, Option, Some}
use Rattle.std.specs.Prelude.{None}
use Rattle.std.specs.List.{AllByRecursion, concat, list_any}
use Rattle.measured_values.specs.declared.byte_order.ByteOrder.{ByteOrder}
use Rattle.measured_values.specs.declared.byte_order.ByteOrder.TheVariants.{MsbLast}
use Rattle.capture.specs.Blocks.{IsBlock, IsInterface, IsSectionHeader, begins_section, kind_of}
use Rattle.capture.specs.Blocks.{order_told}
use Rattle.capture.specs.Numbers.{field}
use Rattle.capture.specs.Packets.{PacketOf, packet_of}
use Rattle.capture.specs.Pcap.{IsHeader, IsRecord, record_packet}
use Rattle.capture.specs.Units.{Known, Says}
use Rattle.capture.specs.declared.format.Format.{Format}
use Rattle.capture.specs.declared.format.Format.TheVariants.{Pcap, Pcapng}
use Rattle.capture.specs.declared.interface.Interface.{Interface}
use Rattle.capture.specs.declared.pcap_header.PcapHeader.{PcapHeader}
use Rattle.capture.specs.declared.step.Step.{Step}
use Rattle.capture.specs.declared.step.Step.TheVariants.{Packet, Passed, Wants}

-- these bytes are a header, and records behind it with these packets
pub record ArePcap (h : PcapHeader) (bytes : List ℕ) (packets : List PacketOf) : Type 0 where
  pub head : List ℕ
  -- fixed by `whole`, since each says its length
  pub records : List (List ℕ)
  pub whole : bytes ≡ head ++ concat records
  pub header : IsHeader h head
  pub are : AllByRecursion (IsRecord h) records
  pub each : packets ≡ map (record_packet h) records

-- of blocks, those from the last section header block on
abbrev pub section_of : List (List ℕ) → List (List ℕ)
section_of [] = []
section_of (b ∷ bs) = if list_any begins_section bs then section_of bs else b ∷ bs

-- the byte order of a section, told by its first block
abbrev pub order_in : List (List ℕ) → ByteOrder
order_in [] = MsbLast
order_in (b ∷ bs) = order_told b

-- a block that describes an interface
abbrev pub describes : ByteOrder → List ℕ → Bool
describes order b = nat_eq (field order 4 0 b) 1

-- these blocks describe these interfaces, one after another
abbrev pub AreInterfaces : ByteOrder → List (List ℕ) → List Interface → Type 0
AreInterfaces order [] is = is ≡ []
AreInterfaces order (b ∷ bs) [] = ⊥
AreInterfaces order (b ∷ bs) (i ∷ is) = IsInterface order b i × AreInterfaces order bs is

-- the interfaces of a section are those that the blocks behind its header describe
abbrev pub HasInterfaces : List (List ℕ) → List Interface → Type 0
HasInterfaces [] is = is ≡ []
HasInterfaces (b ∷ bs) is = AreInterfaces (order_told b) (filter (describes (order_told b)) bs) is

-- behind these blocks stands one more, which begins a section
pub record BeginsAnew (b : List ℕ) (own : List PacketOf) : Type 0 where
  pub block : IsBlock (order_told b) b
  pub header : IsSectionHeader (order_told b) b
  pub none : own ≡ []

-- or goes on with the last one, by the interfaces that were described in it
pub record GoesOnWith (section : List (List ℕ)) (b : List ℕ) (own : List PacketOf) : Type 0 where
  pub block : IsBlock (order_in section) b
  -- fixed by `has`
  pub interfaces : List Interface
  pub has : HasInterfaces section interfaces
  -- fixed by `says`
  pub later : List Interface
  pub says :
      Says (kind_of (field (order_in section) 4 0 b)) (order_in section) interfaces b own later

abbrev pub IsBehind : Bool → List (List ℕ) → List ℕ → List PacketOf → Type 0
IsBehind true before b own = BeginsAnew b own
IsBehind false before b own = GoesOnWith (section_of before) b own

-- behind these blocks stand others, with these packets
abbrev pub AreBehind : List (List ℕ) → List (List ℕ) → List PacketOf → Type 0
AreBehind before [] packets = packets ≡ []
AreBehind before (b ∷ bs) packets =
    (own later : List PacketOf) × (packets ≡ own ++ later)
    × IsBehind (begins_section b) before b own × AreBehind (before ++ b ∷ []) bs later

-- these bytes are blocks with these packets; the first begins a section, and the last section has
-- this byte order and these interfaces
pub record ArePcapng (order : ByteOrder) (interfaces : List Interface) (bytes : List ℕ)
    (packets : List PacketOf)
    : Type 0 where
  pub first : List ℕ
  -- fixed by `whole`, since each says its length
  pub blocks : List (List ℕ)
  pub whole : bytes ≡ concat (first ∷ blocks)
  pub begins : begins_section first ≡ true
  pub are : AreBehind [] (first ∷ blocks) packets
  pub told : order_in (section_of (first ∷ blocks)) ≡ order
  pub has : HasInterfaces (section_of (first ∷ blocks)) interfaces

abbrev pub StandsIn : Option Format → List Interface → List ℕ → List PacketOf → Type 0
StandsIn None interfaces bytes packets = (bytes ≡ []) × (packets ≡ [])
StandsIn (Some (Pcap h)) interfaces bytes packets = ArePcap h bytes packets
StandsIn (Some (Pcapng order)) interfaces bytes packets = ArePcapng order interfaces bytes packets

-- a reader that knows so much stands after these bytes, with these packets
abbrev pub StandsAfter : Known → List ℕ → List PacketOf → Type 0
StandsAfter k bytes packets = StandsIn k.format k.interfaces bytes packets

-- what a step takes, and the packets of it
abbrev pub taken_by : Step → List ℕ → List ℕ
taken_by (Packet n p) bytes = take n bytes
taken_by (Passed n) bytes = take n bytes
taken_by (Wants n) bytes = []

abbrev pub given_by : Step → List PacketOf
given_by (Packet n p) = packet_of p ∷ []
given_by (Passed n) = []
given_by (Wants n) = []

-- whatever the old reader stands after, the new one stands after that and what the step took
abbrev pub LeadsOn : Known → Known → List ℕ → Step → Type 0
LeadsOn old new bytes step =
    (before : List ℕ) (packets : List PacketOf) → StandsAfter old before packets
    → StandsAfter new (before ++ taken_by step bytes) (packets ++ given_by step)
