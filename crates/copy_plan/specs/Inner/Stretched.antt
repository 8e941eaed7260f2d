-- The stretches of the spans of an ODT: neighbours of one size that lie in one segment; and the
-- offsets of the spans in it.
use Rattle.std.specs.Prelude.{◌≡◌, ℕ, ◌+◌, ◌-◌, ◌<◌, ◌≤◌, true, All, List, [], ◌∷◌, flat_map, map}
use Rattle.std.specs.Prelude.{replicate, Option, Some, None}
use Rattle.xcp_base.specs.declared.stretch.Stretch.{Stretch}
use Rattle.segments.specs.declared.segment.Segment.{Segment}
use Rattle.segments.specs.Image.{image_place, image_start, lies_in}
use Rattle.daq_store.specs.declared.entry.Entry.{Entry}
use Rattle.copy_plan.specs.declared.span.Span.{Span}
use Rattle.copy_plan.specs.Inner.Spans.{span_size}

-- the spans of an ODT, their stretches, and the offsets that are kept of them
pub record SpansState : Type 0 where
  pub spans : List Span
  pub stretches : List Stretch
  pub offsets : List ℕ

-- the sizes of the spans of some stretches: of each stretch its size, as often as it has spans
abbrev pub sizes_in : List Stretch → List ℕ
sizes_in stretches = flat_map (λ (s : Stretch). replicate s.count s.size) stretches

-- the segments of the spans of some stretches: of each stretch its own, as often as it has spans
abbrev pub segments_in : List Stretch → List ℕ
segments_in stretches = flat_map (λ (s : Stretch). replicate s.count s.segment) stretches

-- each span lies in the segment of its number, which event channel c may read
abbrev pub LieInThese : ℕ → List Segment → List ℕ → List Span → Type 0
LieInThese c segments [] [] = Unit {0}
LieInThese c segments [] (r ∷ rs) = ⊥
LieInThese c segments (n ∷ ns) [] = ⊥
LieInThese c segments (n ∷ ns) (r ∷ rs) =
    (lies_in c segments r.start r.end n ≡ true) × LieInThese c segments ns rs

-- the offsets of spans: where each begins in the segment of its number
abbrev pub offsets_in : List Segment → List ℕ → List Span → List ℕ
offsets_in segments [] rs = []
offsets_in segments (n ∷ ns) [] = []
offsets_in segments (n ∷ ns) (r ∷ rs) =
    (r.start - image_start segments n) ∷ offsets_in segments ns rs

-- a stretch says where its segment begins in the image
abbrev pub HasStart : List Segment → Stretch → Type 0
HasStart segments s = s.start ≡ image_start segments s.segment

-- the stretches are those of the spans, each span lies in the segment of its stretch, and the
-- offsets count from there
pub record ArePlaced (c : ℕ) (segments : List Segment) (s : SpansState) : Type 0 where
  pub sizes : map span_size s.spans ≡ sizes_in s.stretches
  pub lie : LieInThese c segments (segments_in s.stretches) s.spans
  pub starts : All (HasStart segments) s.stretches
  pub offsets : s.offsets ≡ offsets_in segments (segments_in s.stretches) s.spans

-- the span lies in a segment that event channel c may read
pub record LiesSomewhere (c : ℕ) (segments : List Segment) (r : Span) : Type 0 where
  pub ordered : r.start ≤ r.end
  pub segment : ℕ
  pub lies : lies_in c segments r.start r.end segment ≡ true

-- a place lies in a segment that event channel c may read, at an offset of 32 bits
pub record IsNear (c : ℕ) (segments : List Segment) (at : ℕ) : Type 0 where
  pub segment : ℕ
  pub lies : lies_in c segments at at segment ≡ true
  pub near : at - image_start segments segment < 4294967296

-- the span begins at such a place
abbrev pub BeginsNear : ℕ → List Segment → Span → Type 0
BeginsNear c segments r = IsNear c segments r.start

-- a stretch of no spans, for spans of the size of this one in its segment
pub record IsStretchAt (c : ℕ) (segments : List Segment) (r : Span) (s : Stretch) : Type 0 where
  pub size : s.size ≡ span_size r
  pub lies : lies_in c segments r.start r.end s.segment ≡ true
  pub start : HasStart segments s
  pub none : s.count ≡ 0

-- an entry is written, and begins and ends at these places of the image
abbrev pub AreEndsOf : ℕ → List Segment → Option Entry → ℕ × ℕ → Type 0
AreEndsOf c segments None ends = ⊥
AreEndsOf c segments (Some x) ends =
    (image_place c segments x.extension x.address x.size ≡ Some ends.0)
    × (ends.1 ≡ ends.0 + x.size)
