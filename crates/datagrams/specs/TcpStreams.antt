-- One direction of a TCP connection, put in order by the sequence numbers (RFC 9293).
use Rattle.std.specs.Prelude.{◌≡◌, ◌⊎◌, ℕ, ◌+◌, ◌-◌, ◌%◌, ◌^◌, ◌<◌, ◌≤◌, Bool, ◌&&◌, ◌||◌}
use Rattle.std.specs.Prelude.{true, false, if◌then◌else◌, nat_le, nat_lt, sum, List, [], ◌∷◌}
use Rattle.std.specs.Prelude.{◌++◌, take, map, length, slice_get, Option, Some, None, is_some}
use Rattle.std.specs.Prelude.{unwrap_or}
use Rattle.std.specs.List.{filter}
use Rattle.std.specs.Option.{option_or}
use Rattle.datagrams.specs.Tcp.{SegmentOf}
use Rattle.datagrams.specs.declared.limits.TheConstants.{MAX_CAME, MAX_HELD, MAX_SEGMENT}
use Rattle.datagrams.specs.declared.next_bytes.NextBytes.{NextBytes}
use Rattle.datagrams.specs.declared.next_bytes.NextBytes.TheVariants.{Gap, GoOn, Wait}

-- how far a sequence number is ahead of another: they go round at 2^32
abbrev pub ahead_of : ℕ → ℕ → ℕ
ahead_of number other = (other + (2 ^ 32 - number)) % 2 ^ 32

-- bytes that came, by the number of the first
pub record StretchOf : Type 0 where
  pub number : ℕ
  pub bytes : List ℕ

-- the byte of a number, if one of them has it
abbrev pub byte_of : StretchOf → ℕ → Option ℕ
byte_of c n = slice_get c.bytes (ahead_of c.number n)

-- that of the first that came
abbrev pub byte_numbered : List StretchOf → ℕ → Option ℕ
byte_numbered [] n = None
byte_numbered (c ∷ cs) n = option_or (byte_of c n) (byte_numbered cs n)

-- of so many bytes, from a number on, one doesn't stand before another number: before a number
-- stand those that it is ahead of by less than half of all numbers
abbrev pub reaches : ℕ → ℕ → ℕ → Bool
reaches first len n =
    nat_lt 0 len && (nat_le (2 ^ 31) (ahead_of first n) || nat_lt (ahead_of first n) len)

abbrev pub goes_beyond : ℕ → StretchOf → Bool
goes_beyond n c = reaches c.number (length c.bytes) n

-- what is known of a stream: the number of its first byte, once a segment came; that of the byte
-- which comes next; what waits, in the order in which it came; the number behind the last byte,
-- once that was told; and whether holes are waited for no longer
pub record StreamOf : Type 0 where
  pub first : Option ℕ
  pub next : ℕ
  pub came : List StretchOf
  pub end : Option ℕ
  pub gives_up : Bool

-- bytes before a number are still to come: it is ahead of the next one by less than half of all
abbrev pub is_short_of : StreamOf → ℕ → Bool
is_short_of old n =
    is_some old.first && nat_lt 0 (ahead_of old.next n) && nat_lt (ahead_of old.next n) (2 ^ 31)

-- the number of the first byte of a segment: that behind SYN, if it has that
abbrev pub first_number : SegmentOf → ℕ
first_number s = (s.number + (if s.begins then 1 else 0)) % 2 ^ 32

-- its bytes, as far as they are taken
abbrev pub bytes_taken : SegmentOf → StretchOf
bytes_taken s = record { number = first_number s; bytes = take MAX_SEGMENT s.payload }

-- the byte that comes next: the first segment tells it
abbrev pub next_number : StreamOf → SegmentOf → ℕ
next_number old s = if is_some old.first then old.next else first_number s

-- what is known once a segment came: its bytes wait, unless all of them stand before the next
abbrev pub with_segment : StreamOf → SegmentOf → StreamOf
with_segment old s = record {
  first = Some (unwrap_or old.first (first_number s));
  next = next_number old s;
  came =
      if goes_beyond (next_number old s) (bytes_taken s) then old.came ++ bytes_taken s ∷ []
      else old.came;
  end =
      if s.ends then Some ((first_number s + length (bytes_taken s).bytes) % 2 ^ 32) else old.end;
  gives_up = s.breaks_off;
}

-- a segment may be one of a stream: no other connection begins with it
abbrev pub MayHave : StreamOf → SegmentOf → Type 0
MayHave k s =
    (k.first ≡ None) ⊎ ((s.begins ≡ false) ⊎ (k.first ≡ Some (first_number s)))

-- no more comes: all up to the end was handed out, or, where that isn't told, all that came, and
-- holes are waited for no longer
abbrev pub IsOver : StreamOf → Type 0
IsOver k =
    (k.end ≡ Some k.next) ⊎ ((k.end ≡ None) × (k.gives_up ≡ true) × (k.came ≡ []))

-- how many bytes wait
abbrev pub held : List StretchOf → ℕ
held came = sum (map (λ c. length c.bytes) came)

-- nothing waits, or not too much behind a hole that is waited for
abbrev pub MayWait : StreamOf → Type 0
MayWait k =
    (k.came ≡ []) ⊎ ((k.gives_up ≡ false) × (length k.came ≤ MAX_CAME) × (held k.came ≤ MAX_HELD))

-- behind a number, with what of the bytes that came doesn't stand before that
abbrev pub moved_to : StreamOf → ℕ → StreamOf
moved_to old n = record {
  first = old.first;
  next = n;
  came = filter (goes_beyond n) old.came;
  end = old.end;
  gives_up = old.gives_up;
}

-- bytes were handed out, from the one that comes next on: each is that of the first that came
pub record GoesOn (old new : StreamOf) (before after : List ℕ) : Type 0 where
  -- fixed by `handed`
  pub run : List ℕ
  pub handed : after ≡ before ++ run
  pub some : 0 < length run
  pub each :
      (k : ℕ) → k < length run
      → byte_numbered old.came ((old.next + k) % 2 ^ 32) ≡ slice_get run k
  pub later : new ≡ moved_to old ((old.next + length run) % 2 ^ 32)

-- the byte that comes next is waited for
pub record Waits (old new : StreamOf) (before after : List ℕ) : Type 0 where
  pub none : byte_numbered old.came old.next ≡ None
  pub may : MayWait old
  pub handed : after ≡ before
  pub same : new ≡ old

-- this number is that of the first byte of bytes that came, and none is nearer to the next
pub record IsNearest (came : List StretchOf) (next n : ℕ) : Type 0 where
  -- fixed by `at`
  pub i : ℕ
  pub here : StretchOf
  pub at : slice_get came i ≡ Some here
  pub is : here.number ≡ n
  pub least :
      (j : ℕ) (c : StretchOf) → slice_get came j ≡ Some c → ahead_of next n ≤ ahead_of next c.number

-- it isn't waited for any longer: what comes next is the nearest that came
pub record GivesUp (old new : StreamOf) (before after : List ℕ) : Type 0 where
  pub none : byte_numbered old.came old.next ≡ None
  pub may : MayWait old → ⊥
  pub nearest : IsNearest old.came old.next new.next
  pub handed : after ≡ before
  pub same :
      new ≡ record {
        first = old.first;
        next = new.next;
        came = old.came;
        end = old.end;
        gives_up = old.gives_up;
      }

abbrev pub HandsOut : StreamOf → StreamOf → List ℕ → List ℕ → NextBytes → Type 0
HandsOut old new before after GoOn = GoesOn old new before after
HandsOut old new before after Wait = Waits old new before after
HandsOut old new before after Gap = GivesUp old new before after
