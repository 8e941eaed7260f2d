-- A segment: which bytes lie in it, and who may read them.
use Rattle.std.specs.Prelude.{ℕ, ◌+◌, ◌-◌, ◌^◌, ◌≤◌, ◌==◌, ◌&&◌, nat_eq, nat_le, nat_lt, Bool}
use Rattle.std.specs.Prelude.{if◌then◌else◌, List, All, length}
use Rattle.std.specs.Int.{bit_at}
use Rattle.segments.specs.declared.limits.TheConstants.{ADDRESSES, MAX_SEGMENTS}
use Rattle.segments.specs.declared.segment.Segment.{Segment}

-- the address behind its last byte
abbrev pub end_of : Segment → ℕ
end_of s = s.base + s.len

-- so many bytes from an address on lie in it
abbrev pub holds : ℕ → ℕ → ℕ → Segment → Bool
holds extension address size s =
    s.extension == extension && nat_le s.base address && nat_le (address + size) (end_of s)

-- event channel c may read it
abbrev pub may_read : ℕ → Segment → Bool
may_read c s = nat_eq (bit_at s.events c) 1

-- it ends at or before the last address
abbrev pub EndsWithin : Segment → Type 0
EndsWithin s = end_of s ≤ ADDRESSES

-- there are 16 at most, and each ends at or before the last address
pub record AreWithin (segments : List Segment) : Type 0 where
  pub few : length segments ≤ MAX_SEGMENTS
  pub ends : All EndsWithin segments

-- the set of all event channels, where there are so many: 16 at most
abbrev pub all_readers : ℕ → ℕ
all_readers channels = if nat_lt channels 16 then 2 ^ channels - 1 else 0xFFFF
