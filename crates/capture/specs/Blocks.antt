-- The blocks of a pcapng file, one by one.
use Rattle.std.specs.Prelude.{◌≡◌, ℕ, ◌+◌, ◌-◌, ◌*◌, ◌%◌, ◌^◌, ◌≤◌, ℤ, pos}
use Rattle.std.specs.Prelude.{Bool, if◌then◌else◌, nat_lt, nat_eq}
use Rattle.std.specs.Prelude.{List, drop, take, length, slice_index, slice_range}
use Rattle.std.specs.Prelude.{Option, Some, None}
use Rattle.std.specs.Int.{cast_signed, w64}
use Rattle.measured_values.specs.declared.byte_order.ByteOrder.{ByteOrder}
use Rattle.measured_values.specs.declared.byte_order.ByteOrder.TheVariants.{MsbFirst, MsbLast}
use Rattle.capture.specs.Numbers.{field}
use Rattle.capture.specs.Options.{AreOptions, value_of}
use Rattle.capture.specs.Packets.{PacketOf}
use Rattle.capture.specs.declared.block_kind.BlockKind.{BlockKind}
use Rattle.capture.specs.declared.block_kind.BlockKind.TheVariants.{EnhancedPacket, SimplePacket}
use Rattle.capture.specs.declared.block_kind.BlockKind.TheVariants.{InterfaceDescription, Other}
use Rattle.capture.specs.declared.block_kind.BlockKind.TheVariants.{SectionHeader}
use Rattle.capture.specs.declared.capture_time.CaptureTime.{CaptureTime}
use Rattle.capture.specs.declared.interface.Interface.{Interface}

-- the type of a section header block, 0A0D0D0A, which reads the same in both byte orders
abbrev pub SECTION_HEADER : ℕ
SECTION_HEADER = 168627466

-- the number by which such a block tells the byte order of its section: 1A2B3C4D
abbrev pub BYTE_ORDER_MAGIC : ℕ
BYTE_ORDER_MAGIC = 439041101

-- what kind a block of this type is
abbrev pub kind_of : ℕ → BlockKind
kind_of type =
    if nat_eq type SECTION_HEADER then SectionHeader
    else if nat_eq type 1 then InterfaceDescription
    else if nat_eq type 3 then SimplePacket
    else if nat_eq type 6 then EnhancedPacket
    else Other

-- a section header block begins here
abbrev pub begins_section : List ℕ → Bool
begins_section b = nat_eq (field MsbLast 4 0 b) SECTION_HEADER

-- the byte order that a section header block tells
abbrev pub order_told : List ℕ → ByteOrder
order_told b = if nat_eq (field MsbFirst 4 8 b) BYTE_ORDER_MAGIC then MsbFirst else MsbLast

-- these bytes are a block: its length stands in front, behind the type, and at its end
pub record IsBlock (order : ByteOrder) (b : List ℕ) : Type 0 where
  pub long : 12 ≤ length b
  pub fours : length b % 4 ≡ 0
  pub front : field order 4 4 b ≡ length b
  pub back : field order 4 (length b - 4) b ≡ length b

-- this block is the header of a section of version 1
pub record IsSectionHeader (order : ByteOrder) (b : List ℕ) : Type 0 where
  pub long : 28 ≤ length b
  pub magic : field order 4 8 b ≡ BYTE_ORDER_MAGIC
  pub major : field order 2 12 b ≡ 1

-- a value, if there is one, has so many bytes
abbrev pub HasBytes : ℕ → Option (List ℕ) → Type 0
HasBytes n None = Unit {0}
HasBytes n (Some value) = length value ≡ n

-- into what a second is divided (if_tsresol): microseconds, if nothing is said
abbrev pub resolution_told : Option (List ℕ) → ℕ
resolution_told None = 6
resolution_told (Some value) = slice_index value 0

-- how many seconds are added to each time (if_tsoffset): none, if nothing is said
abbrev pub offset_told : ByteOrder → Option (List ℕ) → ℤ
offset_told order None = pos 0
offset_told order (Some value) = cast_signed w64 (field order 8 0 value)

-- this block describes an interface
pub record IsInterface (order : ByteOrder) (b : List ℕ) (i : Interface) : Type 0 where
  pub long : 20 ≤ length b
  pub link : i.link ≡ field order 2 8 b
  pub snap_len : i.snap_len ≡ field order 4 12 b
  -- fixed by `are`
  pub options : List (ℕ × List ℕ)
  pub are : AreOptions order (slice_range b 16 (length b - 4)) options
  pub one_byte : HasBytes 1 (value_of 9 options)
  pub resolution : i.resolution ≡ resolution_told (value_of 9 options)
  pub eight_bytes : HasBytes 8 (value_of 14 options)
  pub offset : i.offset ≡ offset_told order (value_of 14 options)

-- the time of a packet that interface i received: the high half of its ticks stands first
abbrev pub time_at : ByteOrder → List ℕ → Interface → CaptureTime
time_at order b i = record {
  ticks = field order 4 12 b * 2 ^ 32 + field order 4 16 b;
  resolution = i.resolution;
  offset = i.offset;
}

-- this block is a packet that interface i received, with its time
pub record IsEnhanced (order : ByteOrder) (b : List ℕ) (i : Interface) (p : PacketOf)
    : Type 0 where
  pub long : 32 ≤ length b
  pub within : 32 + field order 4 20 b ≤ length b
  pub is :
      p ≡ record {
        link = i.link;
        time = Some (time_at order b i);
        original = field order 4 24 b;
        bytes = take (field order 4 20 b) (drop 28 b);
      }

-- how many bytes are kept of a packet of n bytes where at most `most` are; 0 has no limit
abbrev pub kept_of : ℕ → ℕ → ℕ
kept_of most n = if nat_eq most 0 then n else if nat_lt most n then most else n

-- this block is a packet of the first interface, without a time
pub record IsSimple (order : ByteOrder) (b : List ℕ) (i : Interface) (p : PacketOf)
    : Type 0 where
  pub long : 16 ≤ length b
  pub within : 16 + kept_of i.snap_len (field order 4 8 b) ≤ length b
  pub is :
      p ≡ record {
        link = i.link;
        time = None;
        original = field order 4 8 b;
        bytes = take (kept_of i.snap_len (field order 4 8 b)) (drop 12 b);
      }
