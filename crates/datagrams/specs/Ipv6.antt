-- An IP packet of version 6, and the headers that extend its own.
use Rattle.std.specs.Prelude.{◌≡◌, ◌⊎◌, ℕ, ◌+◌, ◌*◌, ◌/◌, ◌%◌, ◌≤◌, Bool, true, false, nat_eq}
use Rattle.std.specs.Prelude.{if◌then◌else◌, nat_lt, List, [], ◌∷◌, drop, length, min, slice_index}
use Rattle.std.specs.Prelude.{slice_range}
use Rattle.std.specs.Prelude.{Option, Some, None}
use Rattle.measured_values.specs.declared.byte_order.ByteOrder.TheVariants.{MsbFirst}
use Rattle.capture.specs.Numbers.{field}
use Rattle.datagrams.specs.Ip.{IpOf}
use Rattle.datagrams.specs.declared.ip_packet.Part.{Part}
use Rattle.datagrams.specs.declared.ipv6.Carried.{Carried}

-- how many bytes stand behind its header, by which it tells them; 0 tells nothing
abbrev pub payload_len : List ℕ → ℕ
payload_len b = field MsbFirst 2 4 b

-- where they end in n bytes
abbrev pub payload_end : ℕ → ℕ → ℕ
payload_end told n = if nat_eq told 0 then n else min (40 + told) n

-- a header that extends another and tells its own length: hop-by-hop options, routing, destination
-- options
abbrev pub IsExtension : ℕ → Type 0
IsExtension next = (next ≡ 0) ⊎ ((next ≡ 43) ⊎ (next ≡ 60))

-- these bytes begin with one of so many bytes
pub record HasExtension (next : ℕ) (b : List ℕ) (len : ℕ) : Type 0 where
  pub is : IsExtension next
  pub head : 2 ≤ length b
  pub told : len ≡ 8 * (slice_index b 1 + 1)
  pub within : len ≤ length b

-- what a part of a datagram tells: the lowest bit says that more follow, the highest 13 are the
-- offset, in units of 8 bytes. Where both are 0 it is whole
abbrev pub fragment_field : List ℕ → ℕ
fragment_field b = field MsbFirst 2 2 b

abbrev pub part_told : List ℕ → Option Part
part_told b =
    if nat_eq (fragment_field b / 8 + fragment_field b % 2) 0 then None
    else Some record {
      id = field MsbFirst 4 4 b;
      at = fragment_field b / 8 * 8;
      is_last = nat_eq (fragment_field b % 2) 0;
    }

-- what is carried behind the extensions: the protocol, the part, the bytes
pub record CarriedOf : Type 0 where
  pub protocol : ℕ
  pub part : Option Part
  pub payload : List ℕ

abbrev pub carried_of : Carried → CarriedOf
carried_of c = record { protocol = c.protocol; part = c.part; payload = c.payload.now }

-- behind them stands a fragment header, or what is carried itself
abbrev pub EndsBy : Bool → ℕ → List ℕ → CarriedOf → Type 0
EndsBy true next b c =
    (8 ≤ length b)
    × (c ≡ record { protocol = slice_index b 0; part = part_told b; payload = drop 8 b })
EndsBy false next b c =
    (IsExtension next → ⊥) × (c ≡ record { protocol = next; part = None; payload = b })

-- extensions of these lengths stand in front of these bytes, the first of this kind, and behind
-- them this is carried
abbrev pub IsChain : ℕ → List ℕ → List ℕ → CarriedOf → Type 0
IsChain next b [] c = EndsBy (nat_eq next 44) next b c
IsChain next b (len ∷ lens) c =
    HasExtension next b len × IsChain (slice_index b 0) (drop len b) lens c

-- what is behind the header
abbrev pub behind_header : List ℕ → List ℕ
behind_header b = slice_range b 40 (payload_end (payload_len b) (length b))

-- these bytes begin with an IP packet of version 6
pub record IsIpv6 (b : List ℕ) (p : IpOf) : Type 0 where
  pub head : 40 ≤ length b
  pub version : slice_index b 0 / 16 ≡ 6
  -- both are fixed by `chain`
  pub lens : List ℕ
  pub carried : CarriedOf
  pub chain : IsChain (slice_index b 6) (behind_header b) lens carried
  pub is :
      p ≡ record {
        from = slice_range b 8 24;
        to = slice_range b 24 40;
        protocol = carried.protocol;
        part = carried.part;
        payload = carried.payload;
        is_cut = nat_lt (length b) (40 + payload_len b);
      }
