-- A recording that is read piece by piece.
use Rattle.std.specs.Prelude.{◌≡◌, ◌⊎◌, ℕ, ◌+◌, ◌%◌, ◌^◌, ◌≤◌, List, [], ◌++◌, length}
use Rattle.std.specs.Prelude.{Option, Some}
use Rattle.std.specs.Io.KnownBytes.{Consumes, IsAtEnd}
use Rattle.daq_reader.specs.Frames.{Unread}
use Rattle.daq_reader.specs.Lists.{NoneWaits, Stands}
use Rattle.daq_reader.specs.Reading.{Reading}
use Rattle.daq_reader.specs.Reads.{HasRead, IsFaultOf}
use Rattle.daq_reader.specs.Recorded.{Recorded}
use Rattle.daq_reader.specs.declared.frame_fault.FrameFault.TheVariants.{Torn}
use Rattle.daq_reader.specs.declared.read_fault.ReadFault.TheVariants.{Frame}
use Rattle.recording.specs.declared.piece.Piece.{Piece}
use Rattle.recording.specs.declared.piece.TheConstants.{MAX_FRAME}
use Rattle.recording.specs.declared.place.Place.{Place}
use Rattle.recording.specs.declared.reason.Reason.{Reason}
use Rattle.recording.specs.declared.reason.Reason.TheVariants.{Read, WithinSample}

-- the counter of the frame at a place
abbrev pub counter_at : Place → ℕ
counter_at place = place.frame % 65536

-- the place behind some frames of so many bytes
abbrev pub place_behind : Place → ℕ → ℕ → Place
place_behind place bytes frames = record {
  byte = (place.byte + bytes) % 2 ^ 64;
  frame = (place.frame + frames) % 2 ^ 64;
}

-- bytes that are still to be read at a place
abbrev pub unread_at : Place → List ℕ → Unread
unread_at place bytes = record { rest = bytes; counter = counter_at place }

-- those of a piece
abbrev pub unread_of : Piece → Unread
unread_of piece = unread_at piece.place piece.bytes.items

-- those of a piece, and those that are left of the input behind it
abbrev pub unread_with : Piece → List ℕ → Unread
unread_with piece left = unread_at piece.place (piece.bytes.items ++ left)

-- the bytes of a piece, and behind them the rest of the input, are what is to be read
abbrev pub IsLeftUnread : Option (List ℕ) → Unread → Piece → Type 0
IsLeftUnread rest a piece = (left : List ℕ) × (rest ≡ Some left) × (unread_with piece left ≡ a)

-- behind the packets `qs` a recording was read on from one piece to another: bytes were taken off
-- the input, and behind those of the piece before they begin with the frames of some more packets,
-- after which the lists and the samples stand; the other piece has the bytes behind these frames,
-- and its place counts them
pub record HasPassed (lists : List Reading) (qs : List (List ℕ)) (samples : List (ℕ × Recorded))
    (input rest : Option (List ℕ)) (before now : Piece)
    : Type 0 where
  -- fixed by `of_input`
  pub taken : List ℕ
  pub of_input : Consumes input rest taken
  pub read :
      HasRead lists qs samples (unread_at before.place (before.bytes.items ++ taken))
      (unread_of now)
  pub byte :
      (before.place.byte + length (before.bytes.items ++ taken)) % 2 ^ 64
      ≡ (now.place.byte + length now.bytes.items) % 2 ^ 64

-- the same of all that a reader may have read before
abbrev pub Passes :
    List Reading → List (ℕ × Recorded) → List Reading → List (ℕ × Recorded)
    → Option (List ℕ) → Option (List ℕ) → Piece → Piece → Type 0
Passes old given now samples input rest before piece =
    (qs : List (List ℕ)) → Stands old qs given
    → HasPassed now qs samples input rest before piece

-- some packets were read, and the lists and the samples stand after them
pub record StandSomewhere (lists : List Reading) (samples : List (ℕ × Recorded)) : Type 0 where
  -- any: the clauses speak of each that it may be
  pub packets : List (List ℕ)
  pub stands : Stands lists packets samples

-- a recording is read no further for this: the bytes at hand have this fault, and where they begin
-- with no whole frame, nothing is left behind them, or they are at least as many as the longest
-- frame has; or no byte is left at all, and packets of some list wait for others
abbrev pub IsReason : List Reading → Unread → Option (List ℕ) → Reason → Type 0
IsReason lists left rest (Read fault) =
    IsFaultOf lists left fault
    × (fault ≡ Frame Torn → IsAtEnd rest ⊎ (MAX_FRAME ≤ length left.rest))
IsReason lists left rest WithinSample = (left.rest ≡ []) × IsAtEnd rest × ¬ NoneWaits lists
