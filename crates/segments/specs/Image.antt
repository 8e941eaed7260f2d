-- All memory as one image: the segments laid end to end, with one byte between two that is of
-- neither. So bytes that touch in it are of one segment.
use Rattle.std.specs.Prelude.{ℕ, ◌+◌, ◌-◌, ◌^◌, ◌<◌, ◌≤◌, ◌&&◌, nat_le, Bool, false}
use Rattle.std.specs.Prelude.{if◌then◌else◌, List, [], ◌∷◌, ◌++◌, drop, length, position, replicate}
use Rattle.std.specs.Prelude.{slice_get, sum_by, take, Option, Some, None, option_map}
use Rattle.segments.specs.declared.limits.TheConstants.{MAX_SEGMENTS}
use Rattle.segments.specs.declared.segment.Segment.{Segment}
use Rattle.segments.specs.Memory.{bytes_in}
use Rattle.segments.specs.Places.{base_of, len_of}
use Rattle.segments.specs.Segment.{holds, may_read}

-- one segment of so many bytes, that every event channel may read
abbrev pub image_segments : ℕ → List Segment
image_segments len = record { extension = 0; base = 0; len = len; events = 0xFFFF } ∷ []

-- the bytes of the image
abbrev pub image_len : List Segment → ℕ
image_len [] = 0
image_len (s ∷ []) = s.len
image_len (s ∷ t ∷ more) = s.len + (1 + image_len (t ∷ more))

-- where segment i begins in it
abbrev pub image_start : List Segment → ℕ → ℕ
image_start segments i = sum_by (λ (s : Segment). s.len + 1) (take i segments)

-- a segment as event channel c sees it: its bytes if it may read them, else zeros
abbrev pub shown_to : ℕ → Segment → List ℕ → List ℕ
shown_to c s bytes = if may_read c s then bytes else replicate s.len 0

-- the image of memory as event channel c sees it
abbrev pub image_of : ℕ → List Segment → List (List ℕ) → List ℕ
image_of c [] memory = []
image_of c (s ∷ []) memory = shown_to c s (bytes_in memory 0)
image_of c (s ∷ t ∷ more) memory =
    shown_to c s (bytes_in memory 0) ++ 0 ∷ image_of c (t ∷ more) (drop 1 memory)

-- the number of the segment that event channel c may read and in which so many bytes from an
-- address on lie, if there is one
abbrev pub readable_in : ℕ → List Segment → ℕ → ℕ → ℕ → Option ℕ
readable_in c segments extension address size =
    position (λ s. may_read c s && holds extension address size s) segments

-- the place in the image of an address in segment i
abbrev pub image_place_in : List Segment → ℕ → ℕ → ℕ
image_place_in segments address i =
    image_start segments i + (address - base_of segments i)

-- the place in the image of bytes that event channel c may read
abbrev pub image_place : ℕ → List Segment → ℕ → ℕ → ℕ → Option ℕ
image_place c segments extension address size =
    option_map (image_place_in segments address) (readable_in c segments extension address size)

-- event channel c may read segment i, if there is one
abbrev pub is_open_to : ℕ → Option Segment → Bool
is_open_to c None = false
is_open_to c (Some s) = may_read c s

-- bytes from one place of the image up to another lie in segment i, which event channel c may read
abbrev pub lies_in : ℕ → List Segment → ℕ → ℕ → ℕ → Bool
lies_in c segments start end i =
    is_open_to c (slice_get segments i) && nat_le (image_start segments i) start
    && nat_le end (image_start segments i + len_of segments i)

-- there are 16 segments at most, and a usize counts the bytes of their image
pub record HaveImage (segments : List Segment) : Type 0 where
  pub few : length segments ≤ MAX_SEGMENTS
  pub len : image_len segments < 2 ^ 64
