-- What is kept of datagrams that wait for parts, and what a part changes.
use Rattle.std.specs.Prelude.{◌≡◌, ℕ, ◌+◌, ◌^◌, ◌-◌, min, List, [], ◌∷◌, ◌++◌, drop, get_or}
use Rattle.std.specs.Prelude.{Option, Some, None, MatchOption}
use Rattle.datagrams.specs.Ip.{IpOf}
use Rattle.datagrams.specs.Parts.{IsWhole, KeyOf, PieceOf, WaitOf, byte_at, end_told}
use Rattle.datagrams.specs.Parts.{key_of, part_within, piece_of, pieces_under, too_many, with_piece}
use Rattle.datagrams.specs.Parts.{without}

-- what came first at each place, and where the datagram ends, if that was told
pub record KeptOf : Type 0 where
  pub key : KeyOf
  pub slots : List (Option ℕ)
  pub end : Option ℕ

-- that is kept of a datagram of which these parts came
pub record Keeps (k : KeptOf) (w : WaitOf) : Type 0 where
  pub key : k.key ≡ w.key
  pub each : (i : ℕ) → get_or k.slots i None ≡ byte_at w.pieces i
  pub end : k.end ≡ end_told w.pieces

-- what is kept of all that wait, the oldest first, and how many were let go of
pub record PartsOf : Type 0 where
  pub waiting : List KeptOf
  pub dropped : ℕ

abbrev pub AllKeep : List KeptOf → List WaitOf → Type 0
AllKeep [] [] = Unit {0}
AllKeep [] (w ∷ ws) = ⊥
AllKeep (k ∷ ks) [] = ⊥
AllKeep (k ∷ ks) (w ∷ ws) = Keeps k w × AllKeep ks ws

-- these datagrams wait, the oldest first
abbrev pub AreWaiting : PartsOf → List WaitOf → Type 0
AreWaiting parts waits = AllKeep parts.waiting waits

-- a datagram that is handed out: its addresses, its protocol, what it carries
pub record WholeOf : Type 0 where
  pub from : List ℕ
  pub to : List ℕ
  pub protocol : ℕ
  pub payload : List ℕ

-- a part came, of a datagram that waited with others or of a new one: with it that is whole, and
-- waits no more
pub record MakesWhole (waits : List WaitOf) (key : KeyOf) (p : PieceOf) (d : WholeOf)
    (old new : PartsOf)
    : Type 0 where
  pub whole : IsWhole (pieces_under key waits ++ p ∷ []) d.payload
  pub from : d.from ≡ key.from
  pub to : d.to ≡ key.to
  pub protocol : d.protocol ≡ key.protocol
  pub others : AreWaiting new (without key waits)
  pub dropped : new.dropped ≡ old.dropped

-- or isn't, whatever its bytes, and waits on; of more than may wait the oldest are let go of, which
-- is counted, up to the greatest number
pub record WaitsOn (waits : List WaitOf) (key : KeyOf) (p : PieceOf) (old new : PartsOf)
    : Type 0 where
  pub not_whole : (bytes : List ℕ) → IsWhole (pieces_under key waits ++ p ∷ []) bytes → ⊥
  pub waits_on :
      AreWaiting new (drop (too_many (with_piece key p waits)) (with_piece key p waits))
  pub dropped :
      new.dropped ≡ min (old.dropped + too_many (with_piece key p waits)) (2 ^ 64 - 1)

abbrev pub TakesPiece :
    List WaitOf → KeyOf → PieceOf → Option WholeOf → PartsOf → PartsOf → Type 0
TakesPiece waits key p None old new = WaitsOn waits key p old new
TakesPiece waits key p (Some d) old new = MakesWhole waits key p d old new

-- what a packet changes where these datagrams wait, and what is handed out: if it carries no part
-- that counts, nothing
abbrev pub TakesPacket : List WaitOf → IpOf → Option WholeOf → PartsOf → PartsOf → Type 0
TakesPacket waits packet d old new =
    MatchOption (part_within packet) ((d ≡ None) × (new ≡ old))
    (λ part. TakesPiece waits (key_of packet part) (piece_of packet part) d old new)
