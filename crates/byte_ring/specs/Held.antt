-- What the take end of a ring of bytes holds, and how long a record is.
use Rattle.std.specs.Prelude.{◌≡◌, ℕ, zero, suc, ◌+◌, ◌==◌, List, [], ◌∷◌, ◌++◌}
use Rattle.std.specs.Prelude.{length, drop, min, nat_lt, slice_index, if◌then◌else◌}
use Rattle.byte_ring.specs.Records.{records_of}
use Rattle.byte_ring.specs.Reading.{items_in}

-- the bytes are the records of the items that are read off them, and nothing more
abbrev pub AreRecords : List ℕ → Type 0
AreRecords bytes = bytes ≡ records_of (items_in bytes)

-- what is held is what was popped behind the records of the items received
abbrev pub IsHeld : List ℕ → List ℕ → Type 0
IsHeld popped held = popped ≡ records_of (items_in popped) ++ held

-- the least number of bytes that n packets take up, each behind its length, which begin with these
unfoldable pub least_body : ℕ → List ℕ → ℕ
least_body zero bytes = 0
least_body (suc n) [] = 2 + least_body n []
least_body (suc n) (len ∷ bytes) = 1 + len + least_body n (drop len bytes)

-- the least number of bytes of a record that begins with these: more than these, if they are
-- only a part of it; if a whole record stands in front, its length
unfoldable pub least_record : List ℕ → ℕ
least_record [] = 3
least_record (kind ∷ bytes) =
    if kind == 1
    then (if nat_lt (length bytes) 11
    then 14
    else 12 + least_body (slice_index bytes 10) (drop 11 bytes))
    else 3

-- the same, within the longest record
abbrev pub least : List ℕ → ℕ
least bytes = min 532 (least_record bytes)

-- what was popped so far, what is held of it, and the bytes that are there for sure
pub record Place : Type 0 where
  pub popped : List ℕ
  pub held : List ℕ
  pub ahead : List ℕ

-- some bytes more were popped, and are held
pub record Pulls (a b : Place) : Type 0 where
  pub got : List ℕ
  pub popped : b.popped ≡ a.popped ++ got
  pub held : b.held ≡ a.held ++ got
  pub ahead : a.ahead ≡ got ++ b.ahead
