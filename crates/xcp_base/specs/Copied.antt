-- Spans of memory, and what they copy: of one image, or of memory as a trigger hands it in. A span
-- is kept as its offset: where it begins in the part of memory that its stretch lies in.
use Rattle.std.specs.Prelude.{◌≡◌, ℕ, ◌+◌, ◌≤◌, List, [], ◌∷◌, ◌++◌, All, length, map}
use Rattle.std.specs.Prelude.{drop, flat_map, slice_index_or, slice_range, take}
use Rattle.xcp_base.specs.declared.memory_view.MemoryView.{MemoryView}
use Rattle.xcp_base.specs.declared.memory_view.MemoryView.TheVariants.{Image, Parts}
use Rattle.xcp_base.specs.declared.stretch.Stretch.{Stretch}

-- what spans of this size copy of bytes: the bytes from each offset on, joined in order
abbrev pub copied_at : List ℕ → ℕ → List ℕ → List ℕ
copied_at bytes size offsets = flat_map (λ (o : ℕ). slice_range bytes o (o + size)) offsets

-- the span of this size and offset lies within so many bytes
abbrev pub IsSpanAt : ℕ → ℕ → ℕ → Type 0
IsSpanAt len size o = o + size ≤ len

-- how many spans some stretches have
abbrev pub spans_in : List Stretch → ℕ
spans_in [] = 0
spans_in (s ∷ more) = s.count + spans_in more

-- the stretches, laid out one behind another, are those of the spans: they have as many
abbrev pub AreStretches : List Stretch → List ℕ → Type 0
AreStretches stretches offsets = length offsets ≡ spans_in stretches

-- the bytes that the spans of a stretch lie in: those of its segment, or of an image those from
-- where its segment begins on
abbrev pub bytes_in : MemoryView → Stretch → List ℕ
bytes_in (Image image) s = drop s.start image.now
bytes_in (Parts parts) s = slice_index_or (map (λ part. part.now) parts.now) s.segment []

-- the offsets of some fours, in order
abbrev pub in_fours : List (List ℕ) → List ℕ
in_fours fours = flat_map (λ (four : List ℕ). four) fours

-- what the spans of stretches copy of memory, stretch by stretch
abbrev pub copied_from : MemoryView → List Stretch → List ℕ → List ℕ
copied_from memory [] offsets = []
copied_from memory (s ∷ more) offsets =
    copied_at (bytes_in memory s) s.size (take s.count offsets)
    ++ copied_from memory more (drop s.count offsets)

-- a packet of a field, a timestamp and elements
abbrev pub packet_of : List ℕ → List ℕ → List ℕ → List ℕ
packet_of field stamp elements = field ++ (stamp ++ elements)

-- the packet of a field, a timestamp, and what the spans of stretches copy of memory
abbrev pub copied_packet : List ℕ → List ℕ → MemoryView → List Stretch → List ℕ → List ℕ
copied_packet field stamp memory stretches offsets =
    packet_of field stamp (copied_from memory stretches offsets)

-- the spans of stretches lie within their bytes
abbrev pub AreSpansIn : MemoryView → List Stretch → List ℕ → Type 0
AreSpansIn memory [] offsets = Unit {0}
AreSpansIn memory (s ∷ more) offsets =
    All (IsSpanAt (length (bytes_in memory s)) s.size) (take s.count offsets)
    × AreSpansIn memory more (drop s.count offsets)
