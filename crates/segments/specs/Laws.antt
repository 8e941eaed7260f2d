-- What holds of segments within their limits.
use Rattle.std.specs.Prelude.{◌≡◌, ℕ, ◌+◌, ◌<◌, true, List, None, Some, Ok, slice_get, slice_range}
use Rattle.segments.specs.declared.segment.Segment.{Segment}
use Rattle.segments.specs.Faults.{segments_fault}
use Rattle.segments.specs.Image.{image_of, image_place}
use Rattle.segments.specs.Memory.{fits, read}
use Rattle.segments.specs.Segment.{holds}

-- bytes, at least one, lie in one of them at most
abbrev pub AtMostOne : Type 0
AtMostOne =
    (channels : ℕ) (segments : List Segment) → segments_fault channels segments ≡ None
    → (extension address size i j : ℕ) (s t : Segment) → 0 < size
    → slice_get segments i ≡ Some s → slice_get segments j ≡ Some t
    → holds extension address size s ≡ true → holds extension address size t ≡ true → i ≡ j

-- at the place of bytes that an event channel may read, the image of memory that fits has what
-- reading them gives
abbrev pub ShowsMemory : Type 0
ShowsMemory =
    (channels c : ℕ) (segments : List Segment) (memory : List (List ℕ))
    → segments_fault channels segments ≡ None → fits c segments memory ≡ true
    → (extension address size at : ℕ) → 0 < size
    → image_place c segments extension address size ≡ Some at
    → read segments memory extension address size
    ≡ Ok (slice_range (image_of c segments memory) at (at + size))
