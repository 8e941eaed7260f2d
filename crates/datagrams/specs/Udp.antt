-- A UDP datagram.
use Rattle.std.specs.Prelude.{◌≡◌, ◌⊎◌, ℕ, ◌≤◌, Bool, nat_lt, List, length, slice_range}
use Rattle.measured_values.specs.declared.byte_order.ByteOrder.TheVariants.{MsbFirst}
use Rattle.capture.specs.Numbers.{field}
use Rattle.datagrams.specs.Ip.{end_of}
use Rattle.datagrams.specs.declared.datagram.Datagram.{Datagram}

-- its ports, what it carries, and whether bytes of that weren't captured
pub record DatagramOf : Type 0 where
  pub from_port : ℕ
  pub to_port : ℕ
  pub payload : List ℕ
  pub is_cut : Bool

abbrev pub datagram_of : Datagram → DatagramOf
datagram_of d = record {
  from_port = d.from_port;
  to_port = d.to_port;
  payload = d.payload.now;
  is_cut = d.is_cut;
}

-- the length that its header tells, in bytes; 0 tells nothing
abbrev pub udp_len : List ℕ → ℕ
udp_len b = field MsbFirst 2 4 b

-- these bytes begin with the header of one
pub record IsUdp (b : List ℕ) : Type 0 where
  pub head : 8 ≤ length b
  pub len : (udp_len b ≡ 0) ⊎ (8 ≤ udp_len b)

abbrev pub udp_datagram : List ℕ → DatagramOf
udp_datagram b = record {
  from_port = field MsbFirst 2 0 b;
  to_port = field MsbFirst 2 2 b;
  payload = slice_range b 8 (end_of (udp_len b) (length b));
  is_cut = nat_lt (length b) (udp_len b);
}
