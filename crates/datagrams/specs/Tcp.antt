-- A TCP segment.
use Rattle.std.specs.Prelude.{ℕ, ◌*◌, ◌/◌, ◌%◌, ◌≤◌, Bool, nat_eq, if◌then◌else◌, List, drop}
use Rattle.std.specs.Prelude.{length, Option, Some, None, slice_index}
use Rattle.measured_values.specs.declared.byte_order.ByteOrder.TheVariants.{MsbFirst}
use Rattle.capture.specs.Numbers.{field}
use Rattle.datagrams.specs.declared.segment.Segment.{Segment}

-- its ports, the number of its first byte, that of the byte its sender waits for, if it tells one
-- (ACK), whether it begins a connection (SYN), ends one (FIN) or breaks it off (RST), and what it
-- carries
pub record SegmentOf : Type 0 where
  pub from_port : ℕ
  pub to_port : ℕ
  pub number : ℕ
  pub acknowledged : Option ℕ
  pub begins : Bool
  pub ends : Bool
  pub breaks_off : Bool
  pub payload : List ℕ

abbrev pub segment_of : Segment → SegmentOf
segment_of s = record {
  from_port = s.from_port;
  to_port = s.to_port;
  number = s.number;
  acknowledged = s.acknowledged;
  begins = s.begins;
  ends = s.ends;
  breaks_off = s.breaks_off;
  payload = s.payload.now;
}

-- how long its header is, in bytes
abbrev pub tcp_header_len : List ℕ → ℕ
tcp_header_len b = slice_index b 12 / 16 * 4

-- a flag, by what it is worth
abbrev pub has_flag : ℕ → List ℕ → Bool
has_flag worth b = nat_eq (slice_index b 13 / worth % 2) 1

-- these bytes begin with the header of one, which is there whole
pub record IsTcp (b : List ℕ) : Type 0 where
  pub head : 20 ≤ length b
  pub long : 20 ≤ tcp_header_len b
  pub within : tcp_header_len b ≤ length b

abbrev pub tcp_segment : List ℕ → SegmentOf
tcp_segment b = record {
  from_port = field MsbFirst 2 0 b;
  to_port = field MsbFirst 2 2 b;
  number = field MsbFirst 4 4 b;
  acknowledged = if has_flag 16 b then Some (field MsbFirst 4 8 b) else None;
  begins = has_flag 2 b;
  ends = has_flag 1 b;
  breaks_off = has_flag 4 b;
  payload = drop (tcp_header_len b) b;
}
