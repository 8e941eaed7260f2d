-- Where bytes lie among segments.
use Rattle.std.specs.Prelude.{ℕ, ◌+◌, ◌-◌, ◌<◌, ◌≤◌, ◌&&◌, Bool, List, length}
use Rattle.std.specs.Prelude.{Option, option_map, position, slice_get, unwrap_or}
use Rattle.std.specs.List.{list_any}
use Rattle.segments.specs.declared.place.Place.{Place}
use Rattle.segments.specs.declared.segment.Segment.{Segment}
use Rattle.segments.specs.Segment.{holds, may_read}

-- the number of the segment in which so many bytes from an address on lie, if they lie in one
abbrev pub segment_of : List Segment → ℕ → ℕ → ℕ → Option ℕ
segment_of segments extension address size = position (holds extension address size) segments

-- the address at which segment i begins
abbrev pub base_of : List Segment → ℕ → ℕ
base_of segments i = unwrap_or (option_map (λ (s : Segment). s.base) (slice_get segments i)) 0

-- the place of an address in segment i
abbrev pub place_in : List Segment → ℕ → ℕ → Place
place_in segments address i = record { segment = i; start = address - base_of segments i }

-- the place of so many bytes from an address on
abbrev pub place_of : List Segment → ℕ → ℕ → ℕ → Option Place
place_of segments extension address size =
    option_map (place_in segments address) (segment_of segments extension address size)

-- they lie in a segment that event channel c may read
abbrev pub is_readable : ℕ → List Segment → ℕ → ℕ → ℕ → Bool
is_readable c segments extension address size =
    list_any (λ s. may_read c s && holds extension address size s) segments

-- the length of segment i
abbrev pub len_of : List Segment → ℕ → ℕ
len_of segments i = unwrap_or (option_map (λ (s : Segment). s.len) (slice_get segments i)) 0

-- so many bytes from an address on lie in segment i
pub record HoldsAt (segments : List Segment) (extension address size i : ℕ) : Type 0 where
  pub there : i < length segments
  pub base : base_of segments i ≤ address
  pub ends : address + size ≤ base_of segments i + len_of segments i

-- so many bytes from a place on lie in its segment
pub record IsPlaceOf (segments : List Segment) (size : ℕ) (p : Place) : Type 0 where
  pub there : p.segment < length segments
  pub ends : p.start + size ≤ len_of segments p.segment
