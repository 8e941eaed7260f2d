-- An IP packet: version 4, and what both versions give.
use Rattle.std.specs.Prelude.{◌≡◌, ◌⊎◌, ℕ, ◌*◌, ◌/◌, ◌%◌, ◌≤◌, Bool, if◌then◌else◌, nat_eq, nat_lt}
use Rattle.std.specs.Prelude.{List, length, min, slice_index, slice_range, Option, Some, None}
use Rattle.measured_values.specs.declared.byte_order.ByteOrder.TheVariants.{MsbFirst}
use Rattle.capture.specs.Numbers.{field}
use Rattle.datagrams.specs.declared.ip_packet.IpPacket.{IpPacket}
use Rattle.datagrams.specs.declared.ip_packet.Part.{Part}

-- its addresses, its protocol, which part of a datagram it is, if it isn't a whole one, what it
-- carries, and whether bytes of that weren't captured
pub record IpOf : Type 0 where
  pub from : List ℕ
  pub to : List ℕ
  pub protocol : ℕ
  pub part : Option Part
  pub payload : List ℕ
  pub is_cut : Bool

abbrev pub ip_of : IpPacket → IpOf
ip_of p = record {
  from = p.from.now;
  to = p.to.now;
  protocol = p.protocol;
  part = p.part;
  payload = p.payload.now;
  is_cut = p.is_cut;
}

-- where something ends that tells its length, in n bytes: a length of 0 tells nothing, as where a
-- network card divides what is sent
abbrev pub end_of : ℕ → ℕ → ℕ
end_of told n = if nat_eq told 0 then n else min told n

-- how long its header is, and all of it, in bytes
abbrev pub header_len : List ℕ → ℕ
header_len b = slice_index b 0 % 16 * 4

abbrev pub total_len : List ℕ → ℕ
total_len b = field MsbFirst 2 2 b

-- these bytes begin with the header of an IP packet of version 4
pub record IsIpv4 (b : List ℕ) : Type 0 where
  pub head : 20 ≤ length b
  pub version : slice_index b 0 / 16 ≡ 4
  pub long : 20 ≤ header_len b
  pub within : header_len b ≤ length b
  pub total : (total_len b ≡ 0) ⊎ (header_len b ≤ total_len b)

-- the flags and the offset of a part. The lowest 13 bits are the offset, in units of 8 bytes; the
-- next one says that more parts follow. Both are 0 of a whole datagram
abbrev pub part_field : List ℕ → ℕ
part_field b = field MsbFirst 2 6 b

abbrev pub part_of : List ℕ → Option Part
part_of b =
    if nat_eq (part_field b % 16384) 0 then None
    else Some record {
      id = field MsbFirst 2 4 b;
      at = part_field b % 8192 * 8;
      is_last = nat_eq (part_field b / 8192 % 2) 0;
    }

-- the packet of such a header: what it carries ends where its length says, and not where the frame
-- ends, which may have been filled
abbrev pub ipv4_packet : List ℕ → IpOf
ipv4_packet b = record {
  from = slice_range b 12 16;
  to = slice_range b 16 20;
  protocol = slice_index b 9;
  part = part_of b;
  payload = slice_range b (header_len b) (end_of (total_len b) (length b));
  is_cut = nat_lt (length b) (total_len b);
}
