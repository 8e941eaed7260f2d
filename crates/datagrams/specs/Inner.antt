-- What no public clause cites: how far the headers of an IP packet of version 6 were read, and what
-- a part changes of one datagram that waits; what came of a connection.
use Rattle.std.specs.Prelude.{◌≡◌, ℕ, ◌+◌, ◌-◌, ◌%◌, ◌^◌, ◌<◌, ◌≤◌, min, true, false}
use Rattle.std.specs.Prelude.{List, [], ◌∷◌, ◌++◌, drop, length, get_or, slice_get}
use Rattle.std.specs.Prelude.{Option, Some, None}
use Rattle.std.specs.Option.{option_or}
use Rattle.datagrams.specs.Ipv6.{CarriedOf, IsChain}
use Rattle.datagrams.specs.Parts.{KeyOf, PieceOf, byte_in, same_key}
use Rattle.datagrams.specs.TcpStreams.{StretchOf, ahead_of, byte_numbered, byte_of}
use Rattle.datagrams.specs.Waiting.{KeptOf, PartsOf}
use Rattle.datagrams.specs.declared.limits.TheConstants.{MAX_WAITING}
use Rattle.datagrams.specs.declared.piece.Piece.{Piece}

-- extensions were read up to a place, and this is the kind of what stands there: whatever stands in
-- the bytes, behind those stands the rest of it
pub record HasWalked (first : ℕ) (bytes : List ℕ) (next at : ℕ) : Type 0 where
  pub within : at ≤ length bytes
  pub whole :
      (lens : List ℕ) (c : CarriedOf) → IsChain next (drop at bytes) lens c
      → (all : List ℕ) × IsChain first bytes all c
  pub rest :
      (all : List ℕ) (c : CarriedOf) → IsChain first bytes all c
      → (lens : List ℕ) × IsChain next (drop at bytes) lens c

abbrev pub piece_shown : Piece → PieceOf
piece_shown p = record { at = p.at; bytes = p.bytes.now; end = p.end }

-- these bytes came up to an end, if a piece comes last
pub record IsJoined (slots : List (Option ℕ)) (p : PieceOf) (end : ℕ) (bytes : List ℕ)
    : Type 0 where
  pub many : end ≡ length bytes
  pub each :
      (i : ℕ) → i < length bytes
      → option_or (get_or slots i None) (byte_in p i) ≡ slice_get bytes i

-- a datagram of which this is kept is whole with a piece, and carries these bytes
pub record IsWholeWith (k : KeptOf) (p : PieceOf) (bytes : List ℕ) : Type 0 where
  pub end : option_or k.end p.end ≡ Some (length bytes)
  pub each :
      (i : ℕ) → i < length bytes
      → option_or (get_or k.slots i None) (byte_in p i) ≡ slice_get bytes i

-- a piece came
pub record GainsPiece (old new : KeptOf) (p : PieceOf) : Type 0 where
  pub key : new.key ≡ old.key
  pub each : (i : ℕ) → get_or new.slots i None ≡ option_or (get_or old.slots i None) (byte_in p i)
  pub end : new.end ≡ option_or old.end p.end

-- of those of which this is kept, the first under a key stands at this place
pub record IsFirst (key : KeyOf) (kept : List KeptOf) (i : ℕ) : Type 0 where
  -- fixed by `at`
  pub here : KeptOf
  pub at : slice_get kept i ≡ Some here
  pub same : same_key key here.key ≡ true
  pub before : (j : ℕ) (k : KeptOf) → j < i → slice_get kept j ≡ Some k → same_key key k.key ≡ false

-- none is of that key
abbrev pub IsNew : KeyOf → List KeptOf → Type 0
IsNew key kept = (j : ℕ) (k : KeptOf) → slice_get kept j ≡ Some k → same_key key k.key ≡ false

-- one more begins to wait
pub record BeginsToWait (k : KeptOf) (old new : PartsOf) : Type 0 where
  pub waiting :
      new.waiting ≡ drop (length (old.waiting ++ k ∷ []) - MAX_WAITING) (old.waiting ++ k ∷ [])
  pub dropped :
      new.dropped ≡ min (old.dropped + (length (old.waiting ++ k ∷ []) - MAX_WAITING)) (2 ^ 64 - 1)

-- of bytes that came, none before a place has the byte of a number
abbrev pub HasNone : List StretchOf → ℕ → ℕ → Type 0
HasNone came i n = (j : ℕ) (c : StretchOf) → j < i → slice_get came j ≡ Some c → byte_of c n ≡ None

-- the first that has it stands at a place
pub record HasFirst (came : List StretchOf) (n : ℕ) (i : ℕ) : Type 0 where
  -- fixed by `at`
  pub here : StretchOf
  pub at : slice_get came i ≡ Some here
  pub within : ahead_of here.number n < length here.bytes
  pub before : HasNone came i n

-- so many bytes were appended: from a number on, each is that of the first that came
pub record IsRun (came : List StretchOf) (n : ℕ) (before after : List ℕ) (len : ℕ) : Type 0 where
  -- fixed by `handed`
  pub run : List ℕ
  pub handed : after ≡ before ++ run
  pub many : length run ≡ len
  pub some : 0 < len
  pub each : (k : ℕ) → k < len → byte_numbered came ((n + k) % 2 ^ 32) ≡ slice_get run k

-- of those before a place, none is nearer to a number than one of them
pub record IsNearestOf (came : List StretchOf) (i next n : ℕ) : Type 0 where
  -- fixed by `at`
  pub place : ℕ
  pub here : StretchOf
  pub at : slice_get came place ≡ Some here
  pub is : here.number ≡ n
  pub least :
      (j : ℕ) (c : StretchOf) → j < i → slice_get came j ≡ Some c
      → ahead_of next n ≤ ahead_of next c.number
