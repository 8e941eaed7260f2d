-- Datagrams that came in parts (RFC 791 and RFC 8200, fragmentation), and what those are put
-- together to.
use Rattle.std.specs.Prelude.{◌≡◌, ℕ, ◌+◌, ◌-◌, ◌<◌, Bool, ◌&&◌, not, if◌then◌else◌}
use Rattle.std.specs.Prelude.{nat_eq, nat_le, nat_lt, List, [], ◌∷◌, ◌++◌, length}
use Rattle.std.specs.Prelude.{slice_get, Option, Some, None}
use Rattle.std.specs.Option.{option_and_then, option_or}
use Rattle.std.specs.Str.{bytes_eq}
use Rattle.datagrams.specs.Ip.{IpOf}
use Rattle.datagrams.specs.declared.ip_packet.Part.{Part}
use Rattle.datagrams.specs.declared.limits.TheConstants.{MAX_DATAGRAM, MAX_WAITING}

-- which datagram a part is of
pub record KeyOf : Type 0 where
  pub from : List ℕ
  pub to : List ℕ
  pub protocol : ℕ
  pub id : ℕ

abbrev pub key_of : IpOf → Part → KeyOf
key_of p part = record { from = p.from; to = p.to; protocol = p.protocol; id = part.id }

abbrev pub same_key : KeyOf → KeyOf → Bool
same_key a b =
    bytes_eq a.from b.from && bytes_eq a.to b.to && nat_eq a.protocol b.protocol && nat_eq a.id b.id

-- what a part brings: at which byte of the datagram's it begins, its bytes, and where the datagram
-- ends, if it tells that
pub record PieceOf : Type 0 where
  pub at : ℕ
  pub bytes : List ℕ
  pub end : Option ℕ

-- the last part tells it, unless it was cut
abbrev pub piece_of : IpOf → Part → PieceOf
piece_of p part = record {
  at = part.at;
  bytes = p.payload;
  end = if part.is_last && not p.is_cut then Some (part.at + length p.payload) else None;
}

-- the part that a packet carries, if it carries one; a part that ends beyond the greatest datagram
-- is none
abbrev pub part_within : IpOf → Option Part
part_within p =
    option_and_then
    (λ part. if nat_le (part.at + length p.payload) MAX_DATAGRAM then Some part else None) p.part

-- the byte of the datagram's at a place, if a part has it
abbrev pub byte_in : PieceOf → ℕ → Option ℕ
byte_in p i = if nat_lt i p.at then None else slice_get p.bytes (i - p.at)

-- that of the first part that has it, in the order in which they came
abbrev pub byte_at : List PieceOf → ℕ → Option ℕ
byte_at [] i = None
byte_at (p ∷ ps) i = option_or (byte_in p i) (byte_at ps i)

-- where the datagram ends: what the first part says that tells it
abbrev pub end_told : List PieceOf → Option ℕ
end_told [] = None
end_told (p ∷ ps) = option_or p.end (end_told ps)

-- these parts, in the order in which they came, are a whole datagram of these bytes: its end is
-- told, and a part has each byte before that
pub record IsWhole (pieces : List PieceOf) (bytes : List ℕ) : Type 0 where
  pub end : end_told pieces ≡ Some (length bytes)
  pub each : (i : ℕ) → i < length bytes → byte_at pieces i ≡ slice_get bytes i

-- a datagram that waits for others, and the parts of it that came, in order
pub record WaitOf : Type 0 where
  pub key : KeyOf
  pub pieces : List PieceOf

-- of datagrams that wait, the oldest first: the parts of one of them
abbrev pub pieces_under : KeyOf → List WaitOf → List PieceOf
pieces_under key [] = []
pieces_under key (w ∷ ws) = if same_key key w.key then w.pieces else pieces_under key ws

-- the others
abbrev pub without : KeyOf → List WaitOf → List WaitOf
without key [] = []
without key (w ∷ ws) = if same_key key w.key then ws else w ∷ without key ws

-- all of them once one part more came: that of one which waits is added there, another begins at
-- the end
abbrev pub with_piece : KeyOf → PieceOf → List WaitOf → List WaitOf
with_piece key p [] = record { key = key; pieces = p ∷ [] } ∷ []
with_piece key p (w ∷ ws) =
    if same_key key w.key then record { key = w.key; pieces = w.pieces ++ p ∷ [] } ∷ ws
    else w ∷ with_piece key p ws

-- how many are too many to wait: those are let go of, the oldest first
abbrev pub too_many : List WaitOf → ℕ
too_many waits = length waits - MAX_WAITING
