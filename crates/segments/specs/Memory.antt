-- Memory as it is handed in: a list of bytes for each segment, in their order.
use Rattle.std.specs.Prelude.{ℕ, ◌+◌, ◌==◌, ◌&&◌, ◌||◌, not, Bool, if◌then◌else◌, List, [], length}
use Rattle.std.specs.Prelude.{map, slice_index_or, slice_range, zip}
use Rattle.std.specs.Borrow.{Bor}
use Rattle.std.specs.Prelude.{Option, Some, None, Result, Ok, Err}
use Rattle.std.specs.List.{list_all}
use Rattle.segments.specs.declared.place.Place.{Place}
use Rattle.segments.specs.declared.read_fault.ReadFault.{ReadFault}
use Rattle.segments.specs.declared.read_fault.ReadFault.TheVariants as fault
use Rattle.segments.specs.declared.segment.Segment.{Segment}
use Rattle.segments.specs.Places.{len_of, place_of}
use Rattle.segments.specs.Segment.{may_read}

-- the bytes of slices, in their order
abbrev pub parts : List (Bor (List ℕ)) → List (List ℕ)
parts memory = map (λ part. part.now) memory

-- of a segment that event channel c may read all bytes are there
abbrev pub is_there : ℕ → Segment × List ℕ → Bool
is_there c part = not (may_read c part.0) || length part.1 == part.0.len

-- there is a list of bytes for each segment, and of those that event channel c may read all bytes
abbrev pub fits : ℕ → List Segment → List (List ℕ) → Bool
fits c segments memory =
    length memory == length segments && list_all (is_there c) (zip segments memory)

-- the bytes of segment i
abbrev pub bytes_in : List (List ℕ) → ℕ → List ℕ
bytes_in memory i = slice_index_or memory i []

-- so many bytes from a place on, if their segment is there
abbrev pub read_at : List Segment → List (List ℕ) → ℕ → Option Place → Result (List ℕ) ReadFault
read_at segments memory size None = Err fault.OutOfRange
read_at segments memory size (Some p) =
    if length (bytes_in memory p.segment) == len_of segments p.segment then
    Ok (slice_range (bytes_in memory p.segment) p.start (p.start + size))
    else Err fault.AccessDenied

-- so many bytes from an address on, or why they can't be read
abbrev pub read : List Segment → List (List ℕ) → ℕ → ℕ → ℕ → Result (List ℕ) ReadFault
read segments memory extension address size =
    read_at segments memory size (place_of segments extension address size)
