-- The limits of segments, and which is the first that some segments are out of.
use Rattle.std.specs.Prelude.{ℕ, ◌+◌, ◌-◌, ◌==◌, ◌&&◌, ◌||◌, not, nat_le, nat_lt, Bool, true}
use Rattle.std.specs.Prelude.{if◌then◌else◌, List, [], ◌∷◌, length, Option, Some, None}
use Rattle.std.specs.List.{list_any, range_with_len}
use Rattle.segments.specs.declared.fault.SegmentFault.{SegmentFault}
use Rattle.segments.specs.declared.fault.SegmentFault.TheVariants as fault
use Rattle.segments.specs.declared.limits.TheConstants.{ADDRESSES, MAX_READERS, MAX_SEGMENTS}
use Rattle.segments.specs.declared.segment.Segment.{Segment}
use Rattle.segments.specs.Segment.{end_of, may_read}

-- no bytes, or too many
abbrev pub has_bad_len : Segment → Bool
has_bad_len s = s.len == 0 || nat_lt ADDRESSES s.len

-- of two segments the second has the first's extension, and begins at its end or behind it
abbrev pub begins_behind : Segment → Segment → Bool
begins_behind s t = s.extension == t.extension && nat_le (end_of s) t.base

-- a segment stands behind the one before it, if there is one
abbrev pub follows : Option Segment → Segment → Bool
follows None t = true
follows (Some s) t = nat_lt s.extension t.extension || begins_behind s t

-- an event channel that isn't there may read a segment, where there are so many
abbrev pub names_unknown : ℕ → Segment → Bool
names_unknown channels s =
    list_any (λ c. may_read c s) (range_with_len channels (MAX_READERS - channels))

-- the first limit that segment i is out of, behind the one before it
abbrev pub fault_of : ℕ → ℕ → Option Segment → Segment → Option SegmentFault
fault_of channels i before s =
    if has_bad_len s then Some (fault.Len i)
    else if nat_lt ADDRESSES (end_of s) then Some (fault.End i)
    else if not (follows before s) then Some (fault.Order i)
    else if names_unknown channels s then Some (fault.Events i)
    else None

abbrev pub or_else : Option SegmentFault → Option SegmentFault → Option SegmentFault
or_else (Some first) next = Some first
or_else None next = next

-- the same of all segments from number i on
abbrev pub fault_from : ℕ → ℕ → Option Segment → List Segment → Option SegmentFault
fault_from channels i before [] = None
fault_from channels i before (s ∷ more) =
    or_else (fault_of channels i before s) (fault_from channels (i + 1) (Some s) more)

-- the first limit that segments are out of, where there are so many event channels
abbrev pub segments_fault : ℕ → List Segment → Option SegmentFault
segments_fault channels segments =
    if length segments == 0 || nat_lt MAX_SEGMENTS (length segments) then Some fault.Number
    else fault_from channels 0 None segments
