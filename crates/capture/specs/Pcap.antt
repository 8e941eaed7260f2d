-- A file of libpcap: a header of 24 bytes, and records behind it.
use Rattle.std.specs.Prelude.{◌≡◌, ℕ, ◌+◌, ◌*◌, ◌%◌, ◌^◌, ◌≤◌, pos, List, drop, length, Some}
use Rattle.capture.specs.Numbers.{field}
use Rattle.capture.specs.Packets.{PacketOf}
use Rattle.capture.specs.declared.pcap_header.Fraction.{Fraction}
use Rattle.capture.specs.declared.pcap_header.Fraction.TheVariants.{Micro, Nano}
use Rattle.capture.specs.declared.pcap_header.PcapHeader.{PcapHeader}

-- the magic number by what the stamps count: A1B2C3D4 and A1B23C4D
abbrev pub magic_number : Fraction → ℕ
magic_number Micro = 2712847316
magic_number Nano = 2712812621

-- into what power of ten of parts a second is divided
abbrev pub digits_of : Fraction → ℕ
digits_of Micro = 6
digits_of Nano = 9

-- these bytes are a header of version 2.4. The upper half of the link's field has no link type
pub record IsHeader (h : PcapHeader) (bytes : List ℕ) : Type 0 where
  pub long : length bytes ≡ 24
  pub magic : field h.order 4 0 bytes ≡ magic_number h.fraction
  pub major : field h.order 2 4 bytes ≡ 2
  pub minor : field h.order 2 6 bytes ≡ 4
  pub link : h.link ≡ field h.order 4 20 bytes % 65536

-- these bytes are a record: 16 bytes, and as many as the third number of them says
pub record IsRecord (h : PcapHeader) (bytes : List ℕ) : Type 0 where
  pub head : 16 ≤ length bytes
  pub long : length bytes ≡ 16 + field h.order 4 8 bytes

-- the packet of a record: seconds and a part of one since 1970-01-01, UTC
abbrev pub record_packet : PcapHeader → List ℕ → PacketOf
record_packet h r = record {
  link = h.link;
  time = Some record {
    ticks = field h.order 4 0 r * 10 ^ digits_of h.fraction + field h.order 4 4 r;
    resolution = digits_of h.fraction;
    offset = pos 0;
  };
  original = field h.order 4 12 r;
  bytes = drop 16 r;
}
